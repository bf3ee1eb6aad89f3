-- How many words the parts of a composite have, and where they end.
use Rattle.std.proofs.Common.{◌≡◌, ℕ, zero, suc, ◌+◌, ◌*◌, ◌^◌, ◌<◌, ◌≤◌, Bool, true, false, cond, List, [], ◌∷◌, drop, take, length, slice_get, Option, Some, None, refl, sym, ap, ◌∙◌, subst, arith}
use Rattle.std.specs.Prelude.{nat_lt}
use Rattle.std.proofs.lemmas.Bool.{ltb-true}
use Rattle.spirv_words.specs.declared.images.Instruction.{Instruction}
use Rattle.spirv_words.specs.Machine.{Shape, Shapes, Repeated, Fields, NoField, Field, if_some}
use Rattle.flat_values.specs.Flat.{width, widths}
use Rattle.image_lookup.specs.declared.sorts.Sort.{Sort}
use Rattle.image_lookup.specs.declared.sorts.Sort.TheVariants.{VectorType, ArrayType, StructType}
use Rattle.image_lookup.specs.Lookups.{sort, operand, operands}
use Rattle.image_declarations.specs.Types.{length_of}
use Rattle.image_operands.specs.Composites.{literal_part_by}
use Rattle.image_facts.proofs.Data.{member-behind}
use Rattle.image_facts.specs.Operands.{shape}
use Rattle.image_facts.specs.Shaped.{IsRepeated, IsFields, AreFields}
use Rattle.run_plans.specs.Grounds.{AreNarrow}
use Rattle.run_plans.specs.Walks.{total_width, width_at, IsThere, IsMember}

-- all types are narrow, those that have no shape too
pub narrow_at : (code : List Instruction) → AreNarrow code → (t : ℕ) → width_at code t < 2 ^ 32
narrow_at code n t = by (shape code t) refl
  where
    by : (o : Option Shape) → shape code t ≡ o → if_some o 0 width < 2 ^ 32
    by None e = omega arith
    by (Some s) e = n.each t s e

-- the words of a struct are those of its members
fields_width : (code : List Instruction) (t n : ℕ) (ms : List ℕ) (fs : Shapes) → AreFields code t n ms fs → widths fs ≡ total_width code ms
fields_width code t n [] NoField a = refl
fields_width code t n [] (Field offset of rest) a = absurd a
fields_width code t n (m ∷ ms) NoField a = absurd a
fields_width code t n (m ∷ ms) (Field offset of rest) a =
    sums (ap (λ (o : Option Shape). if_some o 0 width) (sym a.1)) (fields_width code t (n + 1) ms rest a.2)
  where
    sums : {a b c d : ℕ} → a ≡ b → c ≡ d → a + c ≡ b + d
    sums {a} {b} {c} {d} e f = ap (λ x. x + c) e ∙ ap (λ y. b + y) f

pub struct_width : (code : List Instruction) (t : ℕ) → IsFields code t → width_at code t ≡ total_width code (drop 1 (operands code t))
struct_width code t f = ap (λ (o : Option Shape). if_some o 0 width) f.whole ∙ fields_width code t 0 (drop 1 (operands code t)) f.fields f.members

pub repeated_width : (code : List Instruction) (t count stride : ℕ) → IsRepeated code t count stride → width_at code t ≡ count * width_at code (operand code t 1)
repeated_width code t count stride r =
    ap (λ (o : Option Shape). if_some o 0 width) r.whole ∙ ap (λ (o : Option Shape). count * if_some o 0 width) (sym r.element)

-- a member with those before it stays within them all
pub member_within : (code : List Instruction) (ms : List ℕ) (n part : ℕ) → slice_get ms n ≡ Some part
    → total_width code (take n ms) + width_at code part ≤ total_width code ms
member_within code [] n part e = absurd (never e)
  where
    never : slice_get {X = ℕ} [] n ≡ Some part → ⊥
    never e = grind arith
member_within code (m ∷ ms) zero part e =
    let same : width_at code m ≡ width_at code part = ap (λ (o : Option ℕ). if_some o 0 (λ t. width_at code t)) e in
    first _ _ _ same
  where
    first : (a b c : ℕ) → a ≡ b → 0 + b ≤ a + c
    first a b c e = omega arith
member_within code (m ∷ ms) (suc n) part e = more _ _ _ _ (member_within code ms n part e)
  where
    more : (a b c w : ℕ) → a + b ≤ c → (w + a) + b ≤ w + c
    more a b c w h = omega arith

-- an element with those before it stays within them all
pub element_within : (n count w : ℕ) → n < count → n * w + w ≤ count * w
element_within n zero w l = absurd (omega arith)
element_within zero (suc count) w l = grind arith
element_within (suc n) (suc count) w l = more (element_within n count w (omega arith))
  where
    more : n * w + w ≤ count * w → suc n * w + w ≤ suc count * w
    more h = grind (arith, h)

-- ---- where there is a part

ranged : (n count a p : ℕ) → cond (nat_lt n count) (Some a) None ≡ Some p → (n < count) × (cond (nat_lt n count) (Some a) None ≡ Some a)
ranged n count a p e = by (nat_lt n count) refl e
  where
    by : (b : Bool) → nat_lt n count ≡ b → cond b (Some a) None ≡ Some p → (n < count) × (cond (nat_lt n count) (Some a) None ≡ Some a)
    by true f e = (ltb-true n count f, ap (λ r. cond r (Some a) None) f)
    by false f e = absurd (never e)
      where
        never : None ≡ Some p → ⊥
        never e = cc

module _ (code : List Instruction) (t n : ℕ) where
  abbrev Part : Sort → Option ℕ
  Part s = literal_part_by code s t n

  pub vector_there : sort code t ≡ VectorType → IsThere (Part (sort code t)) → (n < operand code t 2) × (Part (sort code t) ≡ Some (operand code t 1))
  vector_there e h =
      let r = ranged n (operand code t 2) (operand code t 1) h.it (sym (ap Part e) ∙ h.is) in
      (r.0, ap Part e ∙ r.1)

  pub array_there : sort code t ≡ ArrayType → IsThere (Part (sort code t))
      → (n < length_of code (operand code t 2)) × (Part (sort code t) ≡ Some (operand code t 1))
  array_there e h =
      let r = ranged n (length_of code (operand code t 2)) (operand code t 1) h.it (sym (ap Part e) ∙ h.is) in
      (r.0, ap Part e ∙ r.1)

  pub struct_part : sort code t ≡ StructType → Part (sort code t) ≡ slice_get (drop 1 (operands code t)) n
  struct_part e = ap Part e ∙ sym (member-behind (operands code t) n)

  pub struct_there : sort code t ≡ StructType → IsThere (Part (sort code t)) → IsThere (slice_get (drop 1 (operands code t)) n)
  struct_there e h = record { it = h.it; is = sym (struct_part e) ∙ h.is }

-- an element's place is told, and it stays inside
module _ (code : List Instruction) (narrow : AreNarrow code) (t n count stride : ℕ) (r : IsRepeated code t count stride) (l : n < count) where
  pub element_fits : n * width_at code (operand code t 1) < 2 ^ 32
  element_fits =
      let w = element_within n count (width_at code (operand code t 1)) l in
      let most = narrow_at code narrow t in
      let all = repeated_width code t count stride r in
      below _ _ _ _ w all most
    where
      below : (a b c d : ℕ) → a + b ≤ c → d ≡ c → d < 2 ^ 32 → a < 2 ^ 32
      below a b c d w e m = omega arith

  pub element_inside : (of place : ℕ) → of ≡ operand code t 1 → place ≡ n * width_at code (operand code t 1) → place + width_at code of ≤ width_at code t
  element_inside of place e f =
      let w = element_within n count (width_at code (operand code t 1)) l in
      let all = repeated_width code t count stride r in
      same _ _ _ _ _ _ w all f (ap (width_at code) e)
    where
      same : (a b c d p q : ℕ) → a + b ≤ c → d ≡ c → p ≡ a → q ≡ b → p + q ≤ d
      same a b c d p q w e f g = omega arith

-- a member's place is told, and it stays inside
pub members_fit : (code : List Instruction) → AreNarrow code → (t n part : ℕ) → IsFields code t → slice_get (drop 1 (operands code t)) n ≡ Some part
    → total_width code (take n (drop 1 (operands code t))) < 2 ^ 32
members_fit code narrow t n part f e =
    let w = member_within code (drop 1 (operands code t)) n part e in
    let most = narrow_at code narrow t in
    below _ _ _ _ w (struct_width code t f) most
  where
    below : (a b c d : ℕ) → a + b ≤ c → d ≡ c → d < 2 ^ 32 → a < 2 ^ 32
    below a b c d w e m = omega arith

pub member_inside : (code : List Instruction) (t n part place : ℕ) → IsFields code t → IsMember code t n part place → place + width_at code part ≤ width_at code t
member_inside code t n part place f m =
    let w = member_within code (drop 1 (operands code t)) n part m.type in
    same _ _ _ _ _ w (struct_width code t f) m.behind
  where
    same : (a b c d p : ℕ) → a + b ≤ c → d ≡ c → p ≡ a → p + b ≤ d
    same a b c d p w e f = omega arith
