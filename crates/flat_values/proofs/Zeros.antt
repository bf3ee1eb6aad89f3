-- The zero of a shape.
use Rattle.std.proofs.Common.{◌≡◌, ℕ, zero, suc, ◌+◌, ◌*◌, ◌++◌, refl, sym, ap, ◌∙◌, zero-mul, suc-mul, arith}
use Rattle.std.specs.Prelude.{replicate}
use Rattle.std.proofs.lemmas.List.{replicate-append-replicate}
use Rattle.behavior.specs.Values.{Value}
use Rattle.spirv_words.specs.Machine.{Shape, Shapes, Truths, Words, Repeated, Fields, NoField, Field, repeated, zero_of, zeros_of}
use Rattle.flat_values.specs.Flat.{flat, flats, width, widths, IsOf, AllOf, FieldsOf, IsData, AreData}

all_repeated : (n : ℕ) (v : Value) (of : Shape) → IsOf v of → AllOf (repeated n v) n of
all_repeated zero v of h = tt
all_repeated (suc n) v of h = (h, all_repeated n v of h)

flats_repeated : (n : ℕ) (v : Value) (k : ℕ) → flat v ≡ replicate k 0 → flats (repeated n v) ≡ replicate (n * k) 0
flats_repeated zero v k e = ap (λ m. replicate m 0) (sym (zero-mul k))
flats_repeated (suc n) v k e =
    let m : k + n * k ≡ suc n * k = omega (arith, suc-mul n k) in
    ap (λ l. l ++ flats (repeated n v)) e ∙ (ap (λ l. replicate k 0 ++ l) (flats_repeated n v k e)
    ∙ (replicate-append-replicate k (n * k) 0 ∙ ap (λ j. replicate j 0) m))

mutual
  pub zero_is_of : (s : Shape) → IsData s → IsOf (zero_of s) s
  zero_is_of Truths h = tt
  zero_is_of (Words signed) h = omega arith
  zero_is_of (Repeated n stride of) h = all_repeated n (zero_of of) of (zero_is_of of h)
  zero_is_of (Fields fs) h = zeros_are_of fs h
  zero_is_of s h = absurd h

  pub zeros_are_of : (fs : Shapes) → AreData fs → FieldsOf (zeros_of fs) fs
  zeros_are_of NoField h = tt
  zeros_are_of (Field offset of rest) h = (zero_is_of of h.0, zeros_are_of rest h.1)

mutual
  pub zero_words : (s : Shape) → IsData s → flat (zero_of s) ≡ replicate (width s) 0
  zero_words Truths h = refl
  zero_words (Words signed) h = refl
  zero_words (Repeated n stride of) h = flats_repeated n (zero_of of) (width of) (zero_words of h)
  zero_words (Fields fs) h = zeros_words fs h
  zero_words s h = absurd h

  pub zeros_words : (fs : Shapes) → AreData fs → flats (zeros_of fs) ≡ replicate (widths fs) 0
  zeros_words NoField h = refl
  zeros_words (Field offset of rest) h =
      ap (λ l. l ++ flats (zeros_of rest)) (zero_words of h.0) ∙ (ap (λ l. replicate (width of) 0 ++ l) (zeros_words rest h.1)
      ∙ replicate-append-replicate (width of) (widths rest) 0)
