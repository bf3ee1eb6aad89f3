-- Words of types, as far as 32 bits tell.
use Rattle.std.proofs.Common.{◌≡◌, ℕ, zero, suc, ◌+◌, ◌*◌, ◌-◌, ◌^◌, ◌≤◌, ◌<◌, min, nat_eq, List, [], ◌∷◌, length, get_or, take, drop, Option, Some, None, Bool, true, false, cond, subst, ◌∙◌, ap, sym, refl, arith, inl, inr}
use Rattle.std.proofs.Math.Nat.{mul-le-mul_right, one-mul, zero-mul}
use Rattle.std.proofs.lemmas.Bool.{cases_lt, cases_eq, eq-eqb, ne_eqb}
use Rattle.std.proofs.lemmas.List.{take_all}
use Rattle.std.specs.Option.{option_map}
use Rattle.std.specs.HashMap.{get}
use Rattle.spirv_words.specs.declared.images.Instruction.{Instruction}
use Rattle.spirv_words.specs.declared.opcodes.Op.TheVariants.{TypeVector, TypeArray, TypeStruct}
use Rattle.spirv_words.specs.Machine.{Shape, Repeated, NoField, Field, Globals, Meaning, IsType, IsValue, Unknown, Operand, add, on_shape, number_at, meaning_of, fields, if_some, offset, or_zero, decoration}
use Rattle.flat_values.specs.Flat.{width, widths}
use Rattle.run_rooms.specs.declared.widths.TypeWords.{TypeWords}
use Rattle.run_rooms.specs.declared.widths.Declared.{Declared}
use Rattle.run_rooms.specs.declared.widths.Declared.TheVariants.{AType, AValue}
use Rattle.run_rooms.specs.declared.widths.Widths.{Widths}
use Rattle.run_rooms.specs.Widths.{measure, measured, members_words, number_in, Measures}

at-least : (n m : ℕ) → m ≤ suc n * m
at-least n m = omega (arith, mul-le-mul_right {m = 1} {n = suc n} m (omega arith), one-mul m)

-- a product of a number that was cut off
pub product-capped : (n w : ℕ) → min (min (n * min w (2 ^ 32)) (2 ^ 64 - 1)) (2 ^ 32) ≡ min (n * w) (2 ^ 32)
product-capped zero w = ap (λ n. min (min n (2 ^ 64 - 1)) (2 ^ 32)) (zero-mul (min w (2 ^ 32))) ∙ sym (ap (λ n. min n (2 ^ 32)) (zero-mul w))
product-capped (suc n) w = elim (cases_lt w (2 ^ 32)) [
  | inl near ↦ let e : min w (2 ^ 32) ≡ w = omega arith in ap (λ m. min (min (suc n * m) (2 ^ 64 - 1)) (2 ^ 32)) e ∙ cut (suc n * w)
  | inr far ↦ both (suc n * min w (2 ^ 32)) (suc n * w) (omega (arith, at-least n (min w (2 ^ 32)))) (omega (arith, at-least n w))
]
  where
    cut : (a : ℕ) → min (min a (2 ^ 64 - 1)) (2 ^ 32) ≡ min a (2 ^ 32)
    cut a = omega arith

    both : (a b : ℕ) → 2 ^ 32 ≤ a → 2 ^ 32 ≤ b → min (min a (2 ^ 64 - 1)) (2 ^ 32) ≡ min b (2 ^ 32)
    both a b p q = omega arith

row-of : (o : Option Shape) (m : TypeWords) (n stride : ℕ) → Some m ≡ option_map measure o
    → AType (record { words = min (min (n * m.words) (2 ^ 64 - 1)) (2 ^ 32); null = None }) ≡ measured (on_shape o (λ s. Repeated n stride s))
row-of None m n stride e = cc
row-of (Some s) m n stride e =
    let is : m ≡ measure s = cc in
    ap (λ (m : TypeWords). AType (record { words = min (min (n * m.words) (2 ^ 64 - 1)) (2 ^ 32); null = None })) is
    ∙ ap (λ w. AType (record { words = w; null = None })) (product-capped n (width s))

-- a row of a type that is known
pub row-is : (w : Widths) (g : Globals) (of n stride : ℕ) (m : TypeWords) → Some m ≡ get nat_eq w.types of → Measures w g
    → AType (record { words = min (min (n * m.words) (2 ^ 64 - 1)) (2 ^ 32); null = None }) ≡ measured (on_shape (g.shapes of) (λ s. Repeated n stride s))
row-is w g of n stride m e h = row-of (g.shapes of) m n stride (e ∙ h.types of)

-- ---- by the operands

pub vector-is : (code : List Instruction) (g : Globals) (os : List ℕ) (d : Declared) → 3 ≤ length os → length os < 4
    → d ≡ measured (on_shape (g.shapes (get_or os 1 0)) (λ s. Repeated (get_or os 2 0) 4 s)) → d ≡ measured (meaning_of code g TypeVector os)
vector-is code g [] d a b e = absurd (omega arith)
vector-is code g (x ∷ []) d a b e = absurd (omega arith)
vector-is code g (x ∷ y ∷ []) d a b e = absurd (omega arith)
vector-is code g (x ∷ y ∷ z ∷ []) d a b e = e
vector-is code g (x ∷ y ∷ z ∷ u ∷ os) d a b e = absurd (omega arith)

pub array-is : (code : List Instruction) (g : Globals) (os : List ℕ) (count : ℕ) (d : Declared) → 3 ≤ length os → length os < 4
    → Some count ≡ number_at (g.ids (get_or os 2 0))
    → ((stride : ℕ) → d ≡ measured (on_shape (g.shapes (get_or os 1 0)) (λ s. Repeated count stride s))) → d ≡ measured (meaning_of code g TypeArray os)
array-is code g [] count d a b n e = absurd (omega arith)
array-is code g (x ∷ []) count d a b n e = absurd (omega arith)
array-is code g (x ∷ y ∷ []) count d a b n e = absurd (omega arith)
array-is code g (x ∷ y ∷ z ∷ []) count d a b n e =
    let stride = or_zero (decoration code x 6) in
    e stride ∙ ap (λ o. measured (if_some o Unknown (λ n. on_shape (g.shapes y) (λ s. Repeated n stride s)))) n
array-is code g (x ∷ y ∷ z ∷ u ∷ os) count d a b n e = absurd (omega arith)

-- ---- members

sum-capped : (a b r s : ℕ) → a ≡ min b (2 ^ 32) → min r (2 ^ 32) ≡ min s (2 ^ 32) → min (a + r) (2 ^ 32) ≡ min (b + s) (2 ^ 32)
sum-capped a b r s d e = omega arith

module _ (code : List Instruction) (g : Globals) (known : ℕ → Option TypeWords) (h : (t : ℕ) → known t ≡ option_map measure (g.shapes t)) where
  pub members-capped : (r k : ℕ) (ts : List ℕ) → min (members_words known ts) (2 ^ 32) ≡ min (widths (fields code g r k ts)) (2 ^ 32)
  members-capped r k [] = refl
  members-capped r k (t ∷ ts) =
      ap (λ o. min (if_some o 0 (λ m. m.words + members_words known ts)) (2 ^ 32)) (h t)
      ∙ elim (g.shapes t) as (λ o. min (if_some (option_map measure o) 0 (λ m. m.words + members_words known ts)) (2 ^ 32) ≡ min (widths (if_some o NoField (λ s. Field (or_zero (offset code r k)) s (fields code g r (k + 1) ts)))) (2 ^ 32)) [
        | None ↦ refl
        | Some s ↦ sum-capped (min (width s) (2 ^ 32)) (width s) (members_words known ts) (widths (fields code g r (k + 1) ts)) refl (members-capped r (k + 1) ts)
      ]

pub struct-is : (code : List Instruction) (w : Widths) (g : Globals) (os : List ℕ) (words : ℕ) → 1 ≤ length os → Measures w g
    → words ≡ min (members_words (get nat_eq w.types) (take (length os - 1) (drop 1 os))) (2 ^ 32)
    → AType (record { words = words; null = None }) ≡ measured (meaning_of code g TypeStruct os)
struct-is code w g [] words a h e = absurd (omega arith)
struct-is code w g (x ∷ ts) words a h e =
    let n : length (x ∷ ts) - 1 ≡ length ts = omega arith in
    let all : take (length (x ∷ ts) - 1) ts ≡ ts = ap (λ n. take n ts) n ∙ take_all (length ts) ts (omega arith) in
    ap (λ n. AType (record { words = n; null = None })) (e ∙ ap (λ l. min (members_words (get nat_eq w.types) l) (2 ^ 32)) all ∙ members-capped code g (get nat_eq w.types) h.types x 0 ts)

-- ---- one declaration more

eqb-sym : (a b : ℕ) → nat_eq a b ≡ nat_eq b a
eqb-sym a b = elim (cases_eq a b) [
  | inl e ↦ eq-eqb a b e ∙ sym (eq-eqb b a (sym e))
  | inr n ↦ ne_eqb a b n ∙ sym (ne_eqb b a (λ e. n (sym e)))
]

entry : {A B : Type 0} (f : A → B) (b c : Bool) (a : A) (o : Option A) → b ≡ c → cond b (Some (f a)) (option_map f o) ≡ option_map f (cond c (Some a) o)
entry f b c a o e =
    ap (λ b. cond b (Some (f a)) (option_map f o)) e
    ∙ elim c as (λ c. cond c (Some (f a)) (option_map f o) ≡ option_map f (cond c (Some a) o)) [ true ↦ refl | false ↦ refl ]

pub add-type : (w n : Widths) (g : Globals) (o : Option ℕ) (d : Meaning) (r : ℕ) (m : TypeWords) → Measures w g → o ≡ Some r → AType m ≡ measured d
    → ((x : ℕ) → get nat_eq n.numbers x ≡ get nat_eq w.numbers x)
    → ((q : ℕ) → get nat_eq n.types q ≡ cond (nat_eq r q) (Some m) (get nat_eq w.types q)) → Measures n (add o d g)
add-type w n g o (IsType s) r m h k e same more =
    subst (λ (o : Option ℕ). Measures n (add o (IsType s) g)) (sym k) (
    let is : m ≡ measure s = cc in
    record {
      types = λ t.
          more t ∙ ap (λ m. cond (nat_eq r t) (Some m) (get nat_eq w.types t)) is ∙ ap (λ o. cond (nat_eq r t) (Some (measure s)) o) (h.types t)
          ∙ entry measure (nat_eq r t) (nat_eq t r) s (g.shapes t) (eqb-sym r t);
      numbers = λ x. ap number_in (same x) ∙ h.numbers x;
    })
add-type w n g o (IsValue v) r m h k e same more = cc
add-type w n g o Unknown r m h k e same more = cc

number-entry : (b c : Bool) (v : Operand) (x : Option ℕ) (m : Option (Option ℕ)) (o : Option Operand) → b ≡ c → x ≡ number_at (Some v) → number_in m ≡ number_at o
    → number_in (cond b (Some x) m) ≡ number_at (cond c (Some v) o)
number-entry b c v x m o e f h =
    ap (λ b. number_in (cond b (Some x) m)) e
    ∙ elim c as (λ c. number_in (cond c (Some x) m) ≡ number_at (cond c (Some v) o)) [ true ↦ f | false ↦ h ]

pub add-value : (w n : Widths) (g : Globals) (o : Option ℕ) (d : Meaning) (r : ℕ) (x : Option ℕ) → Measures w g → o ≡ Some r → AValue x ≡ measured d
    → ((t : ℕ) → get nat_eq n.types t ≡ get nat_eq w.types t)
    → ((q : ℕ) → get nat_eq n.numbers q ≡ cond (nat_eq r q) (Some x) (get nat_eq w.numbers q)) → Measures n (add o d g)
add-value w n g o (IsType s) r x h k e same more = cc
add-value w n g o (IsValue v) r x h k e same more =
    subst (λ (o : Option ℕ). Measures n (add o (IsValue v) g)) (sym k) (
    let is : x ≡ number_at (Some v) = cc in
    record {
      types = λ t. same t ∙ h.types t;
      numbers = λ y. ap number_in (more y) ∙ number-entry (nat_eq r y) (nat_eq y r) v x (get nat_eq w.numbers y) (g.ids y) (eqb-sym r y) is (h.numbers y);
    })
add-value w n g o Unknown r x h k e same more = cc
