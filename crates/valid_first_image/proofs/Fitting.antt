-- When an instruction meets the rule on types of its opcode, by what its operands stand for.
use Rattle.std.proofs.Common.{◌≡◌, ℕ, Bool, true, false, not, ◌&&◌, ◌||◌, List, [], ◌∷◌, Some, refl, ap, ◌∙◌, arith}
use Rattle.std.specs.Prelude.{is_some}
use Rattle.std.proofs.lemmas.Bool.{eq-eqb, le-leb}
use Rattle.spirv_words.specs.declared.opcodes.Op.TheVariants.{TypeVector, TypeRuntimeArray, TypeStruct, TypePointer, TypeFunction, Function, Variable, Load, Store, AccessChain, IAdd}
use Rattle.spirv_words.specs.declared.images.Instruction.{Instruction}
use Rattle.image_lookup.specs.declared.sorts.Sort.TheVariants.{IntType, VectorType, RuntimeArrayType, StructType, PointerType, FunctionType, Number}
use Rattle.image_lookup.specs.Lookups.{sort, operands, operand, is_value}
use Rattle.image_declarations.specs.Decorations.{mark, member_mark, literal_of}
use Rattle.image_declarations.specs.Holdings.{is_data, is_unbounded, is_wrapper}
use Rattle.image_operands.specs.declared.operators.Numbers.TheVariants.{Either}
use Rattle.image_operands.specs.Operators.{is_bool, is_int, is_number, binary_fits}
use Rattle.image_operands.specs.Memory.{is_wrapping, global_fits, loads, stores, load_fits, store_fits, part_at, chain_end, chain_fits}
use Rattle.image_operands.specs.Marks.{is_strided, has_offsets}
use Rattle.image_types.specs.declared.functions.Context.{Context}
use Rattle.image_types.specs.Functions.{is_void, leading_parameters, function_fits, variable_fits}
use Rattle.image_types.specs.Parts.{is_type, vector_fits, runtime_array_fits, may_be_member, have_offsets, struct_fits, pointer_fits, function_type_fits}
use Rattle.first_image.specs.Templates.{ins}

or_true : (b : Bool) → (b || true) ≡ true
or_true true = refl
or_true false = refl

both : (a b : Bool) → a ≡ true → b ≡ true → (a && b) ≡ true
both a b e f = ap (λ x. x && b) e ∙ f

module _ (code : List Instruction) where
  -- a type of pointers of a class to a type
  pub record Points (q class of : ℕ) : Type 0 where
    pub is_sort : sort code q ≡ PointerType
    pub class_is : operand code q 1 ≡ class
    pub of_is : operand code q 2 ≡ of

  pub vector_ok : (r t c : ℕ) → is_int code t ≡ true → vector_fits code (ins TypeVector (r ∷ t ∷ c ∷ [])) ≡ true
  unfolding vector_fits
  vector_ok r t c h = ap (λ x. is_bool code t || x) h ∙ or_true (is_bool code t)

  pub pointer_ok : (r class t : ℕ) → is_type code t ≡ true → pointer_fits code (ins TypePointer (r ∷ class ∷ t ∷ [])) ≡ true
  unfolding pointer_fits
  pointer_ok r class t h = h

  pub function_type_ok : (r t : ℕ) → is_void code t ≡ true → function_type_fits code (ins TypeFunction (r ∷ t ∷ [])) ≡ true
  unfolding function_type_fits
  function_type_ok r t h = ap (λ x. (x || is_data code t) && true) h

  pub runtime_array_ok : (r t : ℕ) → is_data code t ≡ true → is_some (mark code 0 r 6) ≡ true → runtime_array_fits code (ins TypeRuntimeArray (r ∷ t ∷ [])) ≡ true
  unfolding runtime_array_fits
  runtime_array_ok r t h m = both (is_data code t) (not (is_strided code r) || is_some (mark code 0 r 6)) h (ap (λ x. not (is_strided code r) || x) m ∙ or_true (not (is_strided code r)))

  pub struct_ok : (r t : ℕ) → is_wrapper code r ≡ true → is_unbounded code t ≡ true → is_some (member_mark code 0 r 0) ≡ true → struct_fits code (ins TypeStruct (r ∷ t ∷ [])) ≡ true
  unfolding struct_fits
  struct_ok r t w u m =
      both (may_be_member code (is_wrapper code r) t && true) (not (has_offsets code r) || have_offsets code r 1)
      (ap (λ x. (is_data code t || (x && is_unbounded code t)) && true) w ∙ ap (λ x. (is_data code t || x) && true) u ∙ ap (λ x. x && true) (or_true (is_data code t)))
      (ap (λ x. not (has_offsets code r) || x) m ∙ or_true (not (has_offsets code r)))

  -- ---- variables

  pub wrapping_ok : (w array : ℕ) → sort code w ≡ StructType → operands code w ≡ w ∷ array ∷ [] → sort code array ≡ RuntimeArrayType → literal_of (member_mark code 0 w 0) ≡ 0 → is_wrapping code w ≡ true
  unfolding is_wrapping
  wrapping_ok w array s o r m = rw (s, o, r, m) refl

  pub buffer_ok : (r q of : ℕ) (c : Context) → c.inside ≡ false → Points q 12 of → is_some (mark code 0 r 34) ≡ true → is_some (mark code 0 r 33) ≡ true → is_wrapping code of ≡ true
      → variable_fits code c (ins Variable (q ∷ r ∷ 12 ∷ [])) ≡ true
  unfolding variable_fits global_fits
  buffer_ok r q of c out p set binding w = rw (p.is_sort, p.class_is, p.of_is, out, set, binding) w

  pub input_ok : (r q of : ℕ) (c : Context) → c.inside ≡ false → Points q 1 of → is_some (mark code 0 r 11) ≡ true → variable_fits code c (ins Variable (q ∷ r ∷ 1 ∷ [])) ≡ true
  unfolding variable_fits global_fits
  input_ok r q of c out p built_in = rw (p.is_sort, p.class_is, out) built_in

  pub local_ok : (r q of : ℕ) (c : Context) → c.inside ≡ true → Points q 7 of → is_data code of ≡ true → variable_fits code c (ins Variable (q ∷ r ∷ 7 ∷ [])) ≡ true
  unfolding variable_fits
  local_ok r q of c in_function p data_is = rw (p.is_sort, p.class_is, p.of_is, in_function) data_is

  -- ---- functions

  pub function_ok : (r type t : ℕ) (behind : List Instruction) → sort code type ≡ FunctionType → operands code type ≡ type ∷ t ∷ [] → function_fits code (ins Function (t ∷ r ∷ 0 ∷ type ∷ [])) behind ≡ true
  unfolding function_fits
  function_ok r type t behind s o = rw (s, o, eq-eqb t t refl) (le-leb 0 (leading_parameters behind) (omega arith))

  -- ---- loads, stores and paths

  pub load_ok : (t r x q class : ℕ) → is_value code x ≡ true → operand code x 0 ≡ q → Points q class t → loads code class t ≡ true → load_fits code (ins Load (t ∷ r ∷ x ∷ [])) ≡ true
  unfolding load_fits
  load_ok t r x q class v o p l = rw (v, o, p.is_sort, p.class_is, p.of_is, eq-eqb t t refl) l

  pub store_ok : (x y q class t : ℕ) → is_value code x ≡ true → operand code x 0 ≡ q → Points q class t → is_value code y ≡ true → operand code y 0 ≡ t → stores code class t ≡ true
      → store_fits code (ins Store (x ∷ y ∷ [])) ≡ true
  unfolding store_fits
  store_ok x y q class t v o p w u s = rw (v, o, p.is_sort, p.class_is, p.of_is, w, u, eq-eqb t t refl) s

  pub component_ok : (t vector id : ℕ) → sort code vector ≡ VectorType → operand code vector 1 ≡ t → is_value code id ≡ true → is_int code (operand code id 0) ≡ true → part_at code vector id ≡ Some t
  unfolding part_at
  component_ok t vector id s o v i = rw (v, i, s, o) refl

  pub element_ok : (t array id : ℕ) → sort code array ≡ RuntimeArrayType → operand code array 1 ≡ t → is_value code id ≡ true → is_int code (operand code id 0) ≡ true → part_at code array id ≡ Some t
  unfolding part_at
  element_ok t array id s o v i = rw (v, i, s, o) refl

  pub member_ok : (t struct id : ℕ) → sort code struct ≡ StructType → operands code struct ≡ struct ∷ t ∷ [] → sort code id ≡ Number → operand code id 2 ≡ 0 → is_int code (operand code id 0) ≡ true → part_at code struct id ≡ Some t
  unfolding part_at
  member_ok t struct id s o v z i = rw (v, i, s, o, z) refl

  pub chain_ok : (to r x q class of t : ℕ) (path : List ℕ) → is_value code x ≡ true → operand code x 0 ≡ q → Points q class of → Points to class t → chain_end code of path ≡ Some t
      → chain_fits code (ins AccessChain (to ∷ r ∷ x ∷ path)) ≡ true
  unfolding chain_fits
  chain_ok to r x q class of t path v o p to_is c = rw (to_is.is_sort, v, o, p.is_sort, to_is.class_is, p.class_is, eq-eqb class class refl, p.of_is, c, to_is.of_is, eq-eqb t t refl) refl

  -- ---- sums

  pub sum_ok : (t r x y : ℕ) → sort code t ≡ IntType → is_value code x ≡ true → operand code x 0 ≡ t → is_value code y ≡ true → operand code y 0 ≡ t
      → binary_fits code Either (ins IAdd (t ∷ r ∷ x ∷ y ∷ [])) ≡ true
  unfolding binary_fits is_number
  sum_ok t r x y s v o w u = rw (s, s, v, o, w, u, eq-eqb t t refl) refl
