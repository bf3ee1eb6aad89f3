-- What makes a value outside of functions has its words, inside of all words.
use Rattle.std.proofs.Common.{◌≡◌, ◌≢◌, ℕ, ◌+◌, ◌≤◌, ◌<◌, ◌⊎◌, inl, inr, Bool, true, false, ◌&&◌, ◌||◌, not, cond, List, [], ◌∷◌, length, replicate, slice_get, slice_index, IsTrue, Option, Some, None, refl, sym, ap, ◌∙◌, subst, arith}
use Rattle.std.specs.Prelude.{nat_eq}
use Rattle.std.proofs.lemmas.Bool.{eq-eqb, ne_eqb}
use Rattle.std.proofs.lemmas.List.{length-replicate}
use Rattle.spirv_words.specs.declared.opcodes.Op.{Op}
use Rattle.spirv_words.specs.declared.opcodes.Op.TheVariants.{ConstantTrue, ConstantFalse, Constant, ConstantNull, Variable}
use Rattle.spirv_words.specs.declared.images.Instruction.{Instruction}
use Rattle.spirv_words.specs.declared.images.Image.{Image}
use Rattle.spirv_words.specs.Layouts.{fits, is_storage_class}
use Rattle.spirv_words.specs.Machine.{Shape, Truths, Words, result_of, place_of, definition_of, or_zero, decoration, if_some}
use Rattle.flat_values.specs.Flat.{width}
use Rattle.image_lookup.specs.declared.sorts.Sort.{Sort}
use Rattle.image_lookup.specs.declared.sorts.Sort.TheVariants.{BoolType, IntType, PointerType, Holder}
use Rattle.image_lookup.specs.Sorts.{sort_of, is_value_sort}
use Rattle.image_lookup.specs.Lookups.{sort, operand, operands, is_value}
use Rattle.image_places.specs.Places.{function_of}
use Rattle.image_rules.specs.Order.{section}
use Rattle.image_declarations.specs.Holdings.{is_data}
use Rattle.image_declarations.specs.Reach.{is_buffer_class}
use Rattle.image_operands.specs.Operators.{is_bool, is_int}
use Rattle.image_operands.specs.Memory.{is_pointer, is_pointer_sort}
use Rattle.image_operands.specs.Marks.{is_buffer, is_variable, is_variable_sort}
use Rattle.image_facts.specs.Operands.{shape, type_id}
use Rattle.image_facts.proofs.Rules.{right-layout, right-rule, defined-once}
use Rattle.image_facts.proofs.Made.{made, same-instruction}
use Rattle.image_facts.proofs.Sorts.{sort-is, operands-are}
use Rattle.image_facts.proofs.Outside.{outside-follows, some-section}
use Rattle.image_facts.proofs.Shapes.{bool-sort, int-sort, shape-bool, shape-int}
use Rattle.image_facts.proofs.Values.{IsHolder, IsOutside, holder, right-variable, storage-cases, outside-class}
use Rattle.image_scopes.proofs.Signatures.{is_data_sort, data_sorted}
use Rattle.spirv_check.specs.Valid.{Valid}
use Rattle.run_rooms.specs.Rooms.{Rooms, AreRooms, Slot, size_of, slot_size, home_of}
use Rattle.run_plans.specs.declared.base.Bound.{Bound}
use Rattle.run_plans.specs.Plans.{set_of, binding_of}
use Rattle.run_rooms.specs.Valid.{IsOfValid}
use Rattle.run_plans.specs.Values.{number_of, value_words, variable_words, IsMade}
use Rattle.run_plans.proofs.Placed.{some_same}

-- ---- opcodes

abbrev makes_outside : Op → Bool
makes_outside op = is_value_sort (sort_of op) && not (nat_eq (section op) 0)

both : (a b : Bool) → a ≡ true → b ≡ true → (a && b) ≡ true
both true b e f = f
both false b e f = cc

-- what an instruction outside of functions makes: its operands, and how its words are told
data Form : Op → List ℕ → Type 0 where
  ofTrue : (t r : ℕ) → Form ConstantTrue (t ∷ r ∷ [])
  ofFalse : (t r : ℕ) → Form ConstantFalse (t ∷ r ∷ [])
  ofNumber : (t r w : ℕ) → Form Constant (t ∷ r ∷ w ∷ [])
  ofNull : (t r : ℕ) → Form ConstantNull (t ∷ r ∷ [])
  ofVariable : (t r class : ℕ) → IsTrue (is_storage_class class) → Form Variable (t ∷ r ∷ class ∷ [])

form : (op : Op) (os : List ℕ) → makes_outside op ≡ true → IsTrue (fits op os) → Form op os
form ConstantTrue (t ∷ r ∷ []) e l = ofTrue t r
form ConstantFalse (t ∷ r ∷ []) e l = ofFalse t r
form Constant (t ∷ r ∷ w ∷ []) e l = ofNumber t r w
form ConstantNull (t ∷ r ∷ []) e l = ofNull t r
form Variable (t ∷ r ∷ class ∷ []) e l = ofVariable t r class l
form op os e l = cc

-- ---- sizes

no_pointer_sort : (s : Sort) → is_data_sort s ≡ true → is_pointer_sort s ≡ false
no_pointer_sort BoolType d = refl
no_pointer_sort IntType d = refl
no_pointer_sort s d = cc

data_size : (code : List Instruction) (t : ℕ) → is_pointer code t ≡ false → size_of code t ≡ if_some (shape code t) 0 width
data_size code t e = ap (λ b. cond b (cond (is_buffer_class (operand code t 1)) 2 1) (if_some (shape code t) 0 width)) e

pointer_size : (code : List Instruction) (t : ℕ) (b : Bool) → is_pointer code t ≡ true → is_buffer_class (operand code t 1) ≡ b → size_of code t ≡ cond b 2 1
pointer_size code t b e f =
    ap (λ r. cond r (cond (is_buffer_class (operand code t 1)) 2 1) (if_some (shape code t) 0 width)) e ∙ ap (λ r. cond r 2 1) f

-- ---- valid images

module _ (image : Image) (v : Valid image) (L : Rooms) (rooms : AreRooms image.instructions L) (bounds : List Bound) where
  abbrev code : List Instruction
  code = image.instructions

  module _ (k x : ℕ) (op : Op) (os : List ℕ) (at : slice_get code k ≡ Some (record { op = op; operands = os })) (out : function_of code k ≡ 0)
      (value : is_value_sort (sort_of op) ≡ true) (res : result_of op os ≡ Some x) where
    there : place_of code x 0 ≡ Some k
    there = defined-once image v k (record { op = op; operands = os }) x at res

    defines : definition_of code x ≡ Some (record { op = op; operands = os })
    defines =
        let m = made code x k there in
        m.defines ∙ ap (λ (i : Instruction). Some i) (same-instruction m.stands at)

    sort_here : sort code x ≡ sort_of op
    sort_here = sort-is code x (record { op = op; operands = os }) defines

    os_here : operands code x ≡ os
    os_here = operands-are code x (record { op = op; operands = os }) defines

    is_a_value : is_value code x ≡ true
    is_a_value = ap is_value_sort sort_here ∙ value

    inside : L.slot x + slot_size code x ≤ L.total
    inside =
        let w = rooms.within (Slot x) is_a_value in
        let home : home_of code x ≡ 0 = ap (λ (o : Option ℕ). if_some o 0 (λ p. function_of code p)) there ∙ out in
        let high : L.slot x + slot_size code x ≤ L.ends 0 = subst (λ (f : ℕ). L.slot x + slot_size code x ≤ L.ends f) home w.1 in
        let all = rooms.inside in
        omega arith

    -- words of its size
    with_words : (ws : List ℕ) → value_words code L bounds op os ≡ Some ws → length ws ≡ slot_size code x
        → IsMade code L bounds (record { op = op; operands = os })
    with_words ws e n = record {
      id = x;
      words = ws;
      gives = res;
      are = e;
      as_many = n;
      inside = subst (λ (m : ℕ). L.slot x + m ≤ L.total) (sym n) inside;
    }

    type_here : type_id code x ≡ slice_index os 0
    type_here = ap (λ (os : List ℕ). slice_index os 0) os_here

    size_here : slot_size code x ≡ size_of code (slice_index os 0)
    size_here = ap (size_of code) type_here

  -- ---- each kind

  truth_size : (t : ℕ) → is_bool code t ≡ true → size_of code t ≡ 1
  truth_size t h =
      let s = bool-sort code t h in
      data_size code t (ap is_pointer_sort s) ∙ ap (λ (o : Option Shape). if_some o 0 width) (shape-bool image v t s)

  word_size : (t : ℕ) → is_int code t ≡ true → size_of code t ≡ 1
  word_size t h =
      let s = int-sort code t h in
      data_size code t (ap is_pointer_sort s) ∙ ap (λ (o : Option Shape). if_some o 0 width) (shape-int image v t s)

  null_size : (t : ℕ) → is_data code t ≡ true → size_of code t ≡ if_some (shape code t) 0 width
  null_size t h = data_size code t (no_pointer_sort (sort code t) (data_sorted image v t h))

  made_as : (k : ℕ) (op : Op) (os : List ℕ) → slice_get code k ≡ Some (record { op = op; operands = os }) → function_of code k ≡ 0
      → Form op os → IsMade code L bounds (record { op = op; operands = os })
  made_as k op os at out (ofTrue t r) =
      let h = right-rule image v k (record { op = ConstantTrue; operands = t ∷ r ∷ [] }) at in
      with_words k r ConstantTrue (t ∷ r ∷ []) at out refl refl (1 ∷ []) refl
      (sym (size_here k r ConstantTrue (t ∷ r ∷ []) at out refl refl ∙ truth_size t h))
  made_as k op os at out (ofFalse t r) =
      let h = right-rule image v k (record { op = ConstantFalse; operands = t ∷ r ∷ [] }) at in
      with_words k r ConstantFalse (t ∷ r ∷ []) at out refl refl (0 ∷ []) refl
      (sym (size_here k r ConstantFalse (t ∷ r ∷ []) at out refl refl ∙ truth_size t h))
  made_as k op os at out (ofNumber t r w) =
      let h = right-rule image v k (record { op = Constant; operands = t ∷ r ∷ w ∷ [] }) at in
      with_words k r Constant (t ∷ r ∷ w ∷ []) at out refl refl (w ∷ []) refl
      (sym (size_here k r Constant (t ∷ r ∷ w ∷ []) at out refl refl ∙ word_size t h))
  made_as k op os at out (ofNull t r) =
      let h : is_data code t ≡ true = right-rule image v k (record { op = ConstantNull; operands = t ∷ r ∷ [] }) at in
      let n = if_some (shape code t) 0 width in
      with_words k r ConstantNull (t ∷ r ∷ []) at out refl refl (replicate n 0)
      (ap (λ b. cond b (Some (replicate n 0)) None) h)
      (length-replicate n 0 ∙ sym (size_here k r ConstantNull (t ∷ r ∷ []) at out refl refl ∙ null_size t h))
  made_as k op os at out (ofVariable t r class l) =
      by (nat_eq class 1) refl (storage-cases class l)
    where
      is : slice_get code k ≡ Some (record { op = Variable; operands = t ∷ r ∷ class ∷ [] })
      is = at

      var : is_variable code r ≡ true
      var = ap is_variable_sort (sort_here k r Variable (t ∷ r ∷ class ∷ []) is out refl refl)

      h : IsHolder code r
      h = holder code r var

      placed : h.place ≡ k
      placed = some_same (sym h.there ∙ there k r Variable (t ∷ r ∷ class ∷ []) is out refl refl)

      here : operands code r ≡ t ∷ r ∷ class ∷ []
      here = os_here k r Variable (t ∷ r ∷ class ∷ []) is out refl refl

      class_is : operand code r 2 ≡ class
      class_is = ap (λ (os : List ℕ). slice_index os 2) here

      pointer : is_pointer code t ≡ true
      pointer =
          ap (is_pointer code) (sym (type_here k r Variable (t ∷ r ∷ class ∷ []) is out refl refl)) ∙ (right-variable image v r h).pointer

      its_class : operand code t 1 ≡ class
      its_class =
          ap (λ t. operand code t 1) (sym (type_here k r Variable (t ∷ r ∷ class ∷ []) is out refl refl)) ∙ (right-variable image v r h).class ∙ class_is

      outside_here : IsOutside image v r
      outside_here = record { holder = h; outside = ap (function_of code) placed ∙ out }

      size : (b : Bool) → is_buffer_class class ≡ b → slot_size code r ≡ cond b 2 1
      size b e =
          size_here k r Variable (t ∷ r ∷ class ∷ []) is out refl refl ∙ pointer_size code t b pointer (ap is_buffer_class its_class ∙ e)

      input : class ≡ 1 → IsMade code L bounds (record { op = Variable; operands = t ∷ r ∷ class ∷ [] })
      input e =
          with_words k r Variable (t ∷ r ∷ class ∷ []) is out refl refl (L.input (or_zero (decoration code r 11)) ∷ [])
          (ap (λ b. cond b (Some (L.input (or_zero (decoration code r 11)) ∷ [])) (cond (is_buffer code r) (Some (number_of bounds (set_of code r) (binding_of code r) ∷ 0 ∷ [])) None)) (eq-eqb class 1 e))
          (sym (size false (ap is_buffer_class e)))

      buffer : (class ≡ 1 → ⊥) → is_buffer_class class ≡ true → IsMade code L bounds (record { op = Variable; operands = t ∷ r ∷ class ∷ [] })
      buffer n e =
          with_words k r Variable (t ∷ r ∷ class ∷ []) is out refl refl (number_of bounds (set_of code r) (binding_of code r) ∷ 0 ∷ [])
          (ap (λ b. cond b (Some (L.input (or_zero (decoration code r 11)) ∷ [])) (cond (is_buffer code r) (Some (number_of bounds (set_of code r) (binding_of code r) ∷ 0 ∷ [])) None)) (ne_eqb class 1 n)
          ∙ ap (λ b. cond b (Some (number_of bounds (set_of code r) (binding_of code r) ∷ 0 ∷ [])) None)
          (both (is_variable code r) (is_buffer_class (operand code r 2)) var (ap is_buffer_class class_is ∙ e)))
          (sym (size true e))

      differ : (a b : ℕ) → class ≡ a → (b ≡ a → ⊥) → class ≡ b → ⊥
      differ a b e n f = n (sym f ∙ e)

      by : (b : Bool) → nat_eq class 1 ≡ b → (class ≡ 1) ⊎ ((class ≡ 2) ⊎ ((class ≡ 7) ⊎ (class ≡ 12)))
          → IsMade code L bounds (record { op = Variable; operands = t ∷ r ∷ class ∷ [] })
      by b q (inl e) = input e
      by b q (inr (inl e)) = buffer (differ 2 1 e (λ f. omega arith)) (ap is_buffer_class e)
      by b q (inr (inr (inl e))) = absurd (outside-class image v r outside_here (class_is ∙ e))
      by b q (inr (inr (inr e))) = buffer (differ 12 1 e (λ f. omega arith)) (ap is_buffer_class e)

  pub made_outside : (k : ℕ) (i : Instruction) → slice_get code k ≡ Some i → function_of code k ≡ 0 → is_value_sort (sort_of i.op) ≡ true
      → IsMade code L bounds i
  made_outside k i at out value =
      let some : section i.op ≢ 0 = some-section _ _ (outside-follows image v k i at out) in
      made_as k i.op i.operands at out
      (form i.op i.operands (both (is_value_sort (sort_of i.op)) (not (nat_eq (section i.op) 0)) value (ap not (ne_eqb (section i.op) 0 some)))
      (right-layout image v k i at))

pub is_made : (list : List Instruction) (v : IsOfValid list) (L : Rooms) → AreRooms list L → (bounds : List Bound) (k : ℕ) (i : Instruction)
    → slice_get list k ≡ Some i → function_of list k ≡ 0 → is_value_sort (sort_of i.op) ≡ true → IsMade list L bounds i
is_made list v L rooms bounds k i =
    subst (λ (c : List Instruction). AreRooms c L → slice_get c k ≡ Some i → function_of c k ≡ 0 → is_value_sort (sort_of i.op) ≡ true → IsMade c L bounds i) v.same
    (λ rooms. made_outside v.image v.valid L rooms bounds k i) rooms
