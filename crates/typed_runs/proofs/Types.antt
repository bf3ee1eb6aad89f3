-- Which values the types of operators have.
use Rattle.std.proofs.Common.{◌≡◌, ℕ, ◌≤◌, Bool, true, false, ◌&&◌, nat_eq, List, Some, refl, sym, ap, ◌∙◌, arith}
use Rattle.std.proofs.lemmas.Bool.{and_parts, eqb-true}
use Rattle.spirv_words.specs.declared.images.Instruction.{Instruction}
use Rattle.spirv_words.specs.Machine.{Shape, Words, Repeated}
use Rattle.flat_values.specs.Lanes.{IsOfWords, AreAlike}
use Rattle.image_lookup.specs.declared.sorts.Sort.{Sort}
use Rattle.image_lookup.specs.declared.sorts.Sort.TheVariants.{BoolType, IntType, VectorType, PointerType}
use Rattle.image_lookup.specs.Lookups.{sort, operand, is_value}
use Rattle.image_declarations.specs.Holdings.{is_data, has_type}
use Rattle.image_operands.specs.declared.operators.Numbers.{Numbers}
use Rattle.image_operands.specs.Memory.{is_pointer, is_pointer_sort}
use Rattle.image_operands.specs.Operators.{is_bool_sort, is_int, is_int_sort, if_vector, component, lanes, suits, is_number}
use Rattle.image_types.specs.Functions.{is_void, is_void_sort}
use Rattle.image_facts.specs.Operands.{shape, type_id}
use Rattle.typed_runs.proofs.Facts.{Facts}

-- ---- tests

pub three_parts : (a b c : Bool) → (a && b && c) ≡ true → (a ≡ true) × (b ≡ true) × (c ≡ true)
three_parts a b c h =
    let x = and_parts (a && b) c h in
    let y = and_parts a b x.0 in
    (y.0, y.1, x.1)

pub four_parts : (a b c d : Bool) → (a && b && c && d) ≡ true → (a ≡ true) × (b ≡ true) × (c ≡ true) × (d ≡ true)
four_parts a b c d h =
    let x = and_parts (a && b && c) d h in
    let y = three_parts a b c x.0 in
    (y.0, y.1, y.2, x.1)

pub five_parts : (a b c d e : Bool) → (a && b && c && d && e) ≡ true → (a ≡ true) × (b ≡ true) × (c ≡ true) × (d ≡ true) × (e ≡ true)
five_parts a b c d e h =
    let x = and_parts (a && b && c && d) e h in
    let y = four_parts a b c d x.0 in
    (y.0, y.1, y.2, y.3, x.1)

-- ---- sorts

pub of_bool : (s : Sort) → is_bool_sort s ≡ true → s ≡ BoolType
of_bool BoolType h = refl
of_bool s h = cc

pub of_int : (s : Sort) → is_int_sort s ≡ true → s ≡ IntType
of_int IntType h = refl
of_int s h = cc

pub of_pointer : (s : Sort) → is_pointer_sort s ≡ true → s ≡ PointerType
of_pointer PointerType h = refl
of_pointer s h = cc

-- ---- types of values

pub typed_as : (code : List Instruction) (x t : ℕ) → has_type code x t ≡ true → (is_value code x ≡ true) × (type_id code x ≡ t)
typed_as code x t h =
    let both = and_parts (is_value code x) (nat_eq (operand code x 0) t) h in
    (both.0, eqb-true (operand code x 0) t both.1)

module _ (code : List Instruction) (facts : Facts code) where
  -- a type has one shape
  same_shape : {s t : Shape} → Some s ≡ Some t → s ≡ t
  same_shape e = cc

  pub pointer_not_void : (t : ℕ) → is_pointer code t ≡ true → is_void code t ≡ false
  pointer_not_void t p = ap is_void_sort (of_pointer (sort code t) p)

-- ---- numbers

-- a word, or a vector of so many, which are two at least
abbrev pub HasLanes : Shape → ℕ → Type 0
HasLanes (Words a) n = n ≡ 1
HasLanes (Repeated count stride (Words a)) n = (n ≡ count) × (2 ≤ count)
HasLanes s n = ⊥

pub lanes_words : (s : Shape) (n : ℕ) → HasLanes s n → IsOfWords s
lanes_words (Words a) n h = tt
lanes_words (Repeated count stride (Words a)) n h = tt
lanes_words s n h = absurd h

pub lanes_alike : (s t : Shape) (n : ℕ) → HasLanes s n → HasLanes t n → AreAlike s t
lanes_alike (Words a) (Words b) n g h = tt
lanes_alike (Repeated count stride (Words a)) (Repeated count' stride' (Words b)) n g h = (sym g.0 ∙ h.0, tt)
lanes_alike (Words a) (Repeated count' stride' (Words b)) n g h = let l = h.1 in let e = h.0 in absurd (omega arith)
lanes_alike (Repeated count stride (Words a)) (Words b) n g h = let l = g.1 in let e = g.0 in absurd (omega arith)
lanes_alike (Words a) t n g h = absurd h
lanes_alike (Repeated count stride (Words a)) t n g h = absurd h
lanes_alike s t n g h = absurd g

-- a type of numbers, or of vectors of them
pub record IsNumbers (code : List Instruction) (t : ℕ) : Type 0 where
  pub form : Shape
  pub is : shape code t ≡ Some form
  pub laned : HasLanes form (lanes code t)
  pub values : is_data code t ≡ true

module _ (code : List Instruction) (facts : Facts code) where
  by_sort : (t : ℕ) (s : Sort) → sort code t ≡ s → is_int code (if_vector s (operand code t 1) t) ≡ true → IsNumbers code t
  by_sort t VectorType e h =
      let r = facts.shape_vector t e in
      let i = facts.shape_int (operand code t 1) (of_int (sort code (operand code t 1)) h) in
      let w = same_shape code facts (sym r.element ∙ i) in
      let n : operand code t 2 ≡ lanes code t = ap (λ x. if_vector x (operand code t 2) 1) (sym e) in
      record {
        form = Repeated (operand code t 2) 4 (Words (nat_eq (operand code (operand code t 1) 2) 1));
        is = r.whole ∙ ap (λ x. Some (Repeated (operand code t 2) 4 x)) w;
        laned = (sym n, facts.vector_lanes t e);
        values = facts.vector_data t e;
      }
  by_sort t IntType e h = record {
    form = Words (nat_eq (operand code t 2) 1);
    is = facts.shape_int t e;
    laned = ap (λ x. if_vector x (operand code t 2) 1) e;
    values = facts.int_data t e;
  }
  by_sort t s e h = let f : is_int_sort s ≡ true = ap is_int_sort (sym e) ∙ h in cc

  pub numbers : (n : Numbers) (t : ℕ) → is_number code n t ≡ true → IsNumbers code t
  unfolding is_number
  numbers n t h = by_sort t (sort code t) refl (and_parts (is_int code (component code t)) (suits code n (component code t)) h).0
