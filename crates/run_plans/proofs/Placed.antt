-- Where the parts of composites stand.
use Rattle.std.proofs.Common.{◌≡◌, ℕ, zero, suc, ◌+◌, ◌*◌, ◌<◌, List, [], ◌∷◌, drop, take, slice_get, Option, Some, Result, Ok, Err, IfOk, sym, ap, ◌∙◌, subst, arith}
use Rattle.std.specs.Prelude.{nat_lt}
use Rattle.std.proofs.lemmas.Bool.{lt-ltb, cond-true}
use Rattle.spirv_words.specs.declared.images.Instruction.{Instruction}
use Rattle.spirv_words.specs.Machine.{Shape, Shapes, Repeated, Fields, NoField, Field, if_some}
use Rattle.flat_values.specs.Flat.{width}
use Rattle.flat_values.specs.Pieces.{At, OutOfRange, member}
use Rattle.spirv_words.specs.Step.{field_at}
use Rattle.image_lookup.specs.Lookups.{operand, operands}
use Rattle.image_declarations.specs.Decorations.{offset_of}
use Rattle.image_facts.specs.Operands.{shape}
use Rattle.image_facts.specs.Shaped.{IsRepeated, IsFields, AreFields}
use Rattle.run_plans.specs.declared.parts.Part.{Part}
use Rattle.run_plans.specs.Walks.{IsPart, IsPartOf, IsMember, total_width}

-- what holds of a result follows from what holds of it
pub on_ok : {A E : Type 0} {P Q : A → Type 0} (r : Result A E) → IfOk r P → ((a : A) → P a → Q a) → IfOk r Q
on_ok (Ok a) p f = f a p
on_ok (Err e) p f = tt

pub some_same : {A : Type 0} {a b : A} → Some a ≡ Some b → a ≡ b
some_same {A} {a} {b} e = ap (λ (o : Option A). if_some o a (λ x. x)) e

-- the member of these fields with a number is of this type's shape, and stands so far behind the first
pub record IsMemberAt (code : List Instruction) (fs : Shapes) (k part offset place : ℕ) : Type 0 where
  pub form : Shape
  pub is : shape code part ≡ Some form
  pub field : field_at fs k ≡ Some (offset, form)
  pub at : (from : ℕ) → member fs k from ≡ At (from + place) form

module _ (code : List Instruction) where
  pub repeated_part : (t number count stride part place : ℕ) → IsRepeated code t count stride → number < count
      → part ≡ operand code t 1 → place ≡ number * if_some (shape code (operand code t 1)) 0 width
      → IsPart code t number part place
  repeated_part t number count stride part place r lt e f s is =
      let whole : Repeated count stride r.of ≡ s = some_same (sym r.whole ∙ is) in
      let wide : place ≡ number * width r.of = f ∙ ap (λ (o : Option Shape). number * if_some o 0 width) r.element in
      subst (λ (s : Shape). IsPartOf code s number part place) whole
      (record {
        form = r.of;
        is = ap (shape code) e ∙ r.element;
        at = λ from. cond-true (nat_lt number count) (At (from + number * width r.of) r.of) OutOfRange (lt-ltb number count lt)
            ∙ ap (λ n. At (from + n) r.of) (sym wide);
      })

  -- a member's place is behind the members before it
  pub member_at_number : (t n : ℕ) (ms : List ℕ) (fs : Shapes) (k part : ℕ) → AreFields code t n ms fs → slice_get ms k ≡ Some part
      → IsMemberAt code fs k part (offset_of code t (n + k)) (total_width code (take k ms))
  member_at_number t n [] fs k part a e = absurd (never e)
    where
      never : slice_get {X = ℕ} [] k ≡ Some part → ⊥
      never e = grind arith
  member_at_number t n (m ∷ ms) NoField k part a e = absurd a
  member_at_number t n (m ∷ ms) (Field offset of rest) zero part a e = record {
    form = of;
    is = ap (shape code) (sym (some_same e)) ∙ a.1;
    field = ap (λ o. Some (o, of)) (a.0 ∙ ap (offset_of code t) (plus_none n));
    at = λ from. ap (λ n. At n of) (plus_none from);
  }
    where
      plus_none : (from : ℕ) → from ≡ from + 0
      plus_none from = omega arith
  member_at_number t n (m ∷ ms) (Field offset of rest) (suc k) part a e =
      let more = member_at_number t (n + 1) ms rest k part a.2 e in
      let wide = ap (λ (o : Option Shape). if_some o 0 width) a.1 in record {
        form = more.form;
        is = more.is;
        field = more.field ∙ ap (λ j. Some (offset_of code t j, more.form)) (shifted n k);
        at = λ from. more.at (from + width of)
            ∙ ap (λ n. At n more.form) (regroup from (width of) (if_some (shape code m) 0 width) (total_width code (take k ms)) wide);
      }
    where
      regroup : (a b c d : ℕ) → c ≡ b → a + b + d ≡ a + (c + d)
      regroup a b c d e = omega arith

      shifted : (n k : ℕ) → n + 1 + k ≡ n + suc k
      shifted n k = omega arith

  pub member_part : (t number part place : ℕ) → IsFields code t → IsMember code t number part place → IsPart code t number part place
  member_part t number part place f m s is =
      let whole : Fields f.fields ≡ s = some_same (sym f.whole ∙ is) in
      let at = member_at_number t 0 (drop 1 (operands code t)) f.fields number part f.members m.type in
      subst (λ (s : Shape). IsPartOf code s number part place) whole
      (record { form = at.form; is = at.is; at = λ from. at.at from ∙ ap (λ n. At (from + n) at.form) (sym m.behind) })
