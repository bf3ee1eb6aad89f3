-- The words of a value of a shape.
use Rattle.std.proofs.Common.{◌≡◌, ℕ, zero, suc, ◌*◌, Bool, true, false, List, [], ◌∷◌, ◌++◌, length, refl, sym, ap, ◌∙◌, zero-mul, suc-mul, arith}
use Rattle.std.proofs.lemmas.List.{length-append}
use Rattle.behavior.specs.Values.{Value, Values, Truth, Word, Whole, NoMore, Then}
use Rattle.spirv_words.specs.Machine.{Shape, Shapes, Truths, Words, Repeated, Fields, NoField, Field}
use Rattle.flat_values.specs.Flat.{flat, flats, width, widths, IsOf, AllOf, FieldsOf}

mutual
  pub count : (v : Value) (s : Shape) → IsOf v s → length (flat v) ≡ width s
  count (Truth b) Truths h = refl
  count (Word w) (Words signed) h = refl
  count (Whole vs) (Repeated n stride of) h = counts vs n of h
  count (Whole vs) (Fields fs) h = count_fields vs fs h
  count v s h = absurd h

  pub counts : (vs : Values) (n : ℕ) (of : Shape) → AllOf vs n of → length (flats vs) ≡ n * width of
  counts NoMore zero of h = sym (zero-mul (width of))
  counts (Then v vs) (suc n) of h =
      length-append (flat v) (flats vs) ∙ omega (arith, count v of h.0, counts vs n of h.1, suc-mul n (width of))
  counts vs n of h = absurd h

  pub count_fields : (vs : Values) (fs : Shapes) → FieldsOf vs fs → length (flats vs) ≡ widths fs
  count_fields NoMore NoField h = refl
  count_fields (Then v vs) (Field offset of rest) h = length-append (flat v) (flats vs) ∙ omega (arith, count v of h.0, count_fields vs rest h.1)
  count_fields vs fs h = absurd h

-- lists of one length that begin equal lists are equal, and so are the rests
pub same_fronts : (a b c d : List ℕ) → length a ≡ length b → a ++ c ≡ b ++ d → (a ≡ b) × (c ≡ d)
same_fronts [] [] c d n e = (refl, e)
same_fronts (x ∷ a) (y ∷ b) c d n e =
    let t : a ++ c ≡ b ++ d = cc in
    let l : length a ≡ length b = omega arith in
    let h : (a ≡ b) × (c ≡ d) = same_fronts a b c d l t in
    let x_y : x ≡ y = cc in
    let a_b = h.0 in
    (cc, h.1)
same_fronts [] (y ∷ b) c d n e = absurd (omega arith)
same_fronts (x ∷ a) [] c d n e = absurd (omega arith)

heads : {x y : ℕ} {a b : List ℕ} → x ∷ a ≡ y ∷ b → x ≡ y
heads e = cc

same_truth : (a b : Bool) → flat (Truth a) ≡ flat (Truth b) → Truth a ≡ Truth b
same_truth true true e = refl
same_truth false false e = refl
same_truth true false e = absurd (omega (arith, heads e))
same_truth false true e = absurd (omega (arith, heads e))

mutual
  pub same : (v w : Value) (s : Shape) → IsOf v s → IsOf w s → flat v ≡ flat w → v ≡ w
  same (Truth a) (Truth b) Truths g h e = same_truth a b e
  same (Word a) (Word b) (Words signed) g h e = let a_b : a ≡ b = cc in ap Word a_b
  same (Whole vs) (Whole ws) (Repeated n stride of) g h e = ap Whole (sames vs ws n of g h e)
  same (Whole vs) (Whole ws) (Fields fs) g h e = ap Whole (same_fields vs ws fs g h e)
  same (Truth a) (Word b) Truths g h e = absurd h
  same (Truth a) (Whole ws) Truths g h e = absurd h
  same (Word a) (Truth b) (Words signed) g h e = absurd h
  same (Word a) (Whole ws) (Words signed) g h e = absurd h
  same (Whole vs) (Truth b) (Repeated n stride of) g h e = absurd h
  same (Whole vs) (Word b) (Repeated n stride of) g h e = absurd h
  same (Whole vs) (Truth b) (Fields fs) g h e = absurd h
  same (Whole vs) (Word b) (Fields fs) g h e = absurd h
  same v w s g h e = absurd g

  pub sames : (vs ws : Values) (n : ℕ) (of : Shape) → AllOf vs n of → AllOf ws n of → flats vs ≡ flats ws → vs ≡ ws
  sames NoMore NoMore zero of g h e = refl
  sames NoMore (Then w ws) zero of g h e = absurd h
  sames (Then v vs) NoMore (suc n) of g h e = absurd h
  sames (Then v vs) (Then w ws) (suc n) of g h e =
      let both = same_fronts (flat v) (flat w) (flats vs) (flats ws) (count v of g.0 ∙ sym (count w of h.0)) e in
      let one : v ≡ w = same v w of g.0 h.0 both.0 in
      let rest : vs ≡ ws = sames vs ws n of g.1 h.1 both.1 in
      cc
  sames vs ws n of g h e = absurd g

  pub same_fields : (vs ws : Values) (fs : Shapes) → FieldsOf vs fs → FieldsOf ws fs → flats vs ≡ flats ws → vs ≡ ws
  same_fields NoMore NoMore NoField g h e = refl
  same_fields NoMore (Then w ws) NoField g h e = absurd h
  same_fields (Then v vs) NoMore (Field offset of rest) g h e = absurd h
  same_fields (Then v vs) (Then w ws) (Field offset of rest) g h e =
      let both = same_fronts (flat v) (flat w) (flats vs) (flats ws) (count v of g.0 ∙ sym (count w of h.0)) e in
      let one : v ≡ w = same v w of g.0 h.0 both.0 in
      let more : vs ≡ ws = same_fields vs ws rest g.1 h.1 both.1 in
      cc
  same_fields vs ws fs g h e = absurd g
