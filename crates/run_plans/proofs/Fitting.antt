-- The instructions of a valid image fit what their actions need.
use Rattle.std.proofs.Common.{◌≡◌, ℕ, zero, suc, ◌+◌, ◌*◌, ◌^◌, ◌<◌, ◌≤◌, true, false, ◌&&◌, cond, List, [], ◌∷◌, length, drop, slice_get, slice_index, Option, Some, None, refl, sym, ap, ◌∙◌, subst, arith}
use Rattle.std.specs.Prelude.{nat_eq, is_some}
use Rattle.std.specs.List.{list_all}
use Rattle.std.proofs.lemmas.Bool.{and_parts, eqb-true, false_from_ne_true}
use Rattle.std.proofs.lemmas.Option.{slice_get_within}
use Rattle.spirv_words.specs.declared.opcodes.Op.{Op}
use Rattle.spirv_words.specs.declared.opcodes.Op.TheVariants.{AccessChain, CompositeConstruct, CompositeExtract, FunctionCall}
use Rattle.spirv_words.specs.declared.images.Instruction.{Instruction}
use Rattle.spirv_words.specs.declared.images.Image.{Image}
use Rattle.spirv_words.specs.Machine.{Shape, Shapes, Repeated, Fields, NoField, Field, place_of, if_some}
use Rattle.flat_values.specs.Flat.{width, widths}
use Rattle.image_lookup.specs.declared.sorts.Sort.{Sort}
use Rattle.image_lookup.specs.declared.sorts.Sort.TheVariants.{VectorType, ArrayType, StructType, PointerType}
use Rattle.image_lookup.specs.Sorts.{is_value_sort}
use Rattle.image_lookup.specs.Lookups.{sort, operand, operands, is_value}
use Rattle.image_places.specs.Places.{function_of}
use Rattle.image_declarations.specs.Reach.{is_id, is_buffer_class}
use Rattle.image_declarations.specs.Types.{length_of}
use Rattle.image_declarations.specs.Holdings.{is_data, has_type}
use Rattle.image_operands.specs.Memory.{is_pointer_sort, is_pointer, chain_end, chain_fits}
use Rattle.image_operands.specs.Composites.{are_members, are_elements, parts_fit, construct_fits, extract_end, extract_fits}
use Rattle.image_calls.specs.Arguments.{is_argument, are_arguments, parameter_types}
use Rattle.image_scopes.proofs.Kept.{meets_rule}
use Rattle.image_scopes.proofs.Values.{sort_is}
use Rattle.image_scopes.proofs.Used.{result_is_here}
use Rattle.image_scopes.proofs.Standing.{opened}
use Rattle.image_scopes.proofs.Contexts.{operands_is, call_at}
use Rattle.image_scopes.proofs.Entering.{function}
use Rattle.image_scopes.proofs.Signatures.{is_data_sort, data_sorted}
use Rattle.image_facts.specs.Operands.{shape}
use Rattle.image_facts.specs.Shaped.{AreFields}
use Rattle.image_facts.proofs.Shapes.{shape-vector}
use Rattle.image_facts.proofs.Data.{shape-array, shape-struct, component-data, array-data, data-member, member-behind}
use Rattle.spirv_check.specs.Valid.{Valid}
use Rattle.run_rooms.specs.Rooms.{Rooms, AreRooms, Slot, size_of, slot_size, home_of}
use Rattle.run_plans.specs.declared.base.Ground.{Ground}
use Rattle.run_plans.specs.Kinds.{kind_of}
use Rattle.run_plans.specs.Acted.{sizes, IsChained, IsExtracted, IsCalled, IsActed}
use Rattle.run_plans.specs.Ground.{rooms_of}
use Rattle.run_plans.specs.Grounds.{AreFew, IsGround}
use Rattle.run_plans.proofs.Placed.{some_same}
use Rattle.run_plans.proofs.Sized.{size_as, sizes_of_one}

no_bool : false ≡ true → ⊥
no_bool e = cc

id_is : (o : Option ℕ) (t : ℕ) → is_id o t ≡ true → o ≡ Some t
id_is (Some u) t h = ap (λ (n : ℕ). Some n) (eqb-true u t h)
id_is None t h = absurd (no_bool h)

id_is_some : (o : Option ℕ) (t : ℕ) → is_id o t ≡ true → is_some o ≡ true
id_is_some o t h = ap (λ (o : Option ℕ). is_some o) (id_is o t h)

data_points : (s : Sort) → is_data_sort s ≡ true → is_pointer_sort s ≡ true → ⊥
data_points PointerType d p = no_bool d
data_points s d p = no_bool p

-- as many arguments as parameters
as_many : (code : List Instruction) (ts vs : List ℕ) → are_arguments code ts vs ≡ true → length vs ≡ length ts
as_many code [] [] h = refl
as_many code (t ∷ ts) (v ∷ vs) h = ap suc (as_many code ts vs (and_parts (is_argument code t v) (are_arguments code ts vs) h).1)
as_many code [] (v ∷ vs) h = absurd (no_bool h)
as_many code (t ∷ ts) [] h = absurd (no_bool h)

module _ (image : Image) (v : Valid image) where
  abbrev code : List Instruction
  code = image.instructions

  -- ---- composites

  -- a type of data has as many words as its values
  pub data_size : (t : ℕ) (s : Shape) → is_data code t ≡ true → shape code t ≡ Some s → size_of code t ≡ width s
  data_size t s d e =
      ap (λ b. cond b (cond (is_buffer_class (operand code t 1)) 2 1) (if_some (shape code t) 0 width))
      (false_from_ne_true (is_pointer code t) (data_points (sort code t) (data_sorted image v t d)))
      ∙ ap (λ (o : Option Shape). if_some o 0 width) e

  -- elements of a type are as many words as a row of its shape
  elements_size : (of count : ℕ) (form : Shape) (vs : List ℕ) → are_elements code of count vs ≡ true → is_data code of ≡ true
      → shape code of ≡ Some form → sizes code vs ≡ count * width form
  unfolding are_elements
  elements_size of count form vs h d e =
      let both = and_parts (nat_eq (length vs) count) (list_all (λ v. has_type code v of) vs) h in
      sizes_of_one code of vs both.1 ∙ ap (λ n. n * size_of code of) (eqb-true (length vs) count both.0) ∙ ap (λ n. count * n) (data_size of form d e)

  -- values of members are as many words as the fields
  members_size : (t n : ℕ) (ts vs : List ℕ) (fs : Shapes) → AreFields code t n ts fs → ((j m : ℕ) → slice_get ts j ≡ Some m → is_data code m ≡ true)
      → are_members code ts vs ≡ true → sizes code vs ≡ widths fs
  members_size t n [] [] NoField f d h = refl
  members_size t n (m ∷ ts) (x ∷ vs) (Field offset of rest) f d h =
      let both = and_parts (has_type code x m) (are_members code ts vs) h in
      let one = size_as code x m both.0 ∙ data_size m of (d 0 m refl) f.1 in
      let more = members_size t (n + 1) ts vs rest f.2 (λ j k e. d (suc j) k e) both.1 in
      omega (arith, one, more)
  members_size t n [] (x ∷ vs) fs f d h = absurd (no_bool h)
  members_size t n (m ∷ ts) [] fs f d h = absurd (no_bool h)
  members_size t n [] [] (Field offset of rest) f d h = absurd f
  members_size t n (m ∷ ts) (x ∷ vs) NoField f d h = absurd f

  -- the parts of a composite have as many words as it has
  parts_size : (t : ℕ) (vs : List ℕ) (s : Sort) → sort code t ≡ s → parts_fit code s t vs ≡ true → is_data code t ≡ true → sizes code vs ≡ size_of code t
  parts_size t vs VectorType o h d =
      let r = shape-vector image v t o in
      elements_size (operand code t 1) (operand code t 2) r.of vs h (component-data image v t o) r.element ∙ sym (data_size t (Repeated (operand code t 2) 4 r.of) d r.whole)
  parts_size t vs ArrayType o h d =
      let r = shape-array image v t o in
      elements_size (operand code t 1) (length_of code (operand code t 2)) r.of vs h (array-data image v t o) r.element ∙ sym (data_size t _ d r.whole)
  parts_size t vs StructType o h d =
      let r = shape-struct image v t o in
      members_size t 0 (drop 1 (operands code t)) vs r.fields r.members
      (λ j m e. data-member image v t j m o d (sym (member-behind (operands code t) j) ∙ e)) h
      ∙ sym (data_size t (Fields r.fields) d r.whole)
  parts_size t vs s o h d = absurd (no_bool h)

  -- ---- where results stand

  module _ (L : Rooms) (rooms : AreRooms code L) where
    -- the words of what is in a function, or outside of functions, end within all words
    home_inside : (f k : ℕ) → function_of code k ≡ f → L.ends f ≤ L.total
    home_inside zero k e = rooms.inside
    home_inside (suc p) k e = (rooms.behind (suc p) (p, refl, (opened code p k e).op)).1

    pub slot_inside : (x k : ℕ) → is_value code x ≡ true → place_of code x 0 ≡ Some k → L.slot x + slot_size code x < 2 ^ 32
    slot_inside x k value there =
        let within = (rooms.within (Slot x) value).1 in
        let home : home_of code x ≡ function_of code k = ap (λ (o : Option ℕ). if_some o 0 (λ p. function_of code p)) there in
        let inside = home_inside (function_of code k) k refl in
        let small = rooms.small in
        omega (arith, within, ap L.ends home, inside, small)

    -- ---- instructions

    module _ (few : AreFew code) (k : ℕ) where
      chained : (t r p : ℕ) (is : List ℕ) → slice_get code k ≡ Some (record { op = AccessChain; operands = t ∷ r ∷ p ∷ is }) → IsChained code p is
      unfolding chain_fits
      chained t r p is at =
          let i : Instruction = record { op = AccessChain; operands = t ∷ r ∷ p ∷ is } in
          let pointers : ℕ = operand code p 0 in
          let a = and_parts _ (is_id (chain_end code (operand code pointers 2) is) (operand code t 2)) (meets_rule image v k i at) in
          let b = and_parts _ (nat_eq (operand code t 1) (operand code pointers 1)) a.0 in
          let c = and_parts _ (is_pointer code pointers) b.0 in
          let d = and_parts (is_pointer code t) (is_value code p) c.0 in
          record { value = d.1; of_pointers = c.1; leads = id_is_some (chain_end code (operand code pointers 2) is) (operand code t 2) a.1 }

      extracted : (t r x : ℕ) (path : List ℕ) → slice_get code k ≡ Some (record { op = CompositeExtract; operands = t ∷ r ∷ x ∷ path })
          → IsExtracted code t x path
      unfolding extract_fits
      extracted t r x path at =
          let i : Instruction = record { op = CompositeExtract; operands = t ∷ r ∷ x ∷ path } in
          let of : ℕ = operand code x 0 in
          let a = and_parts (is_value code x && is_data code of) (is_id (extract_end code of path) t) (meets_rule image v k i at) in
          let b = and_parts (is_value code x) (is_data code of) a.0 in
          record { value = b.0; whole = b.1; leads = id_is (extract_end code of path) t a.1 }

      constructed : (t r : ℕ) (vs : List ℕ) → slice_get code k ≡ Some (record { op = CompositeConstruct; operands = t ∷ r ∷ vs })
          → L.slot r + sizes code vs < 2 ^ 32
      unfolding construct_fits
      constructed t r vs at =
          let i : Instruction = record { op = CompositeConstruct; operands = t ∷ r ∷ vs } in
          let both = and_parts (is_data code t) (parts_fit code (sort code t) t vs) (meets_rule image v k i at) in
          let there : place_of code r 0 ≡ Some k = result_is_here image v k i at r refl in
          let value : is_value code r ≡ true = ap is_value_sort (sort_is code r k i there at) in
          let type : operand code r 0 ≡ t = ap (λ (os : List ℕ). slice_index os 0) (operands_is code r k i there at) in
          let inside = slot_inside r k value there in
          let same = parts_size t vs (sort code t) refl both.1 both.0 in
          omega (arith, inside, same, ap (size_of code) type)

      called : (t r f : ℕ) (arguments : List ℕ) → slice_get code k ≡ Some (record { op = FunctionCall; operands = t ∷ r ∷ f ∷ arguments })
          → IsCalled code f arguments
      called t r f arguments at =
          let c = call_at image v k t r f arguments at in
          let b = function image v f c.callee in
          let many = as_many code (parameter_types code f) arguments c.fit in
          let label = slice_get_within code (suc b.place + length (parameter_types code f)) b.run.instruction b.run.stands in
          let all : length code < 2 ^ 32 = few in
          record { near = λ p there. let same : p ≡ b.place = some_same (sym there ∙ b.there) in omega (arith, many, label, all, same) }

      acted : (op : Op) (os : List ℕ) → slice_get code k ≡ Some (record { op = op; operands = os }) → IsActed code L (kind_of op) os
      acted AccessChain (t ∷ r ∷ p ∷ is) at = chained t r p is at
      acted CompositeConstruct (t ∷ r ∷ vs) at = constructed t r vs at
      acted CompositeExtract (t ∷ r ∷ x ∷ path) at = extracted t r x path at
      acted FunctionCall (t ∷ r ∷ f ∷ arguments) at = called t r f arguments at
      acted op os at = tt

-- each instruction of the code on a ground
pub is_acted : (g : Ground) (k : ℕ) (i : Instruction) → IsGround g → slice_get g.places.code k ≡ Some i
    → IsActed g.places.code (rooms_of g) (kind_of i.op) i.operands
is_acted g k i ground at =
    let V = ground.valid in
    let P : List Instruction → Type 0 = λ (c : List Instruction). AreRooms c (rooms_of g) → AreFew c → slice_get c k ≡ Some i
    → IsActed c (rooms_of g) (kind_of i.op) i.operands in
    subst P V.same (λ rooms few at. acted V.image V.valid (rooms_of g) rooms few k i.op i.operands at) ground.rooms ground.few at
