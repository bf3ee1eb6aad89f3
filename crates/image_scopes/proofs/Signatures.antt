-- The types of functions' parameters and results.
use Rattle.std.proofs.Common.{◌≡◌, ℕ, zero, suc, ◌⊎◌, inl, inr, Bool, true, false, ◌&&◌, ◌||◌, nat_eq, cond, List, [], ◌∷◌, drop, slice_get, slice_index, Option, Some, None, refl, sym, ap, ◌∙◌}
use Rattle.std.specs.List.{list_all}
use Rattle.std.proofs.lemmas.Bool.{eqb-true, and_parts, or_cases, false_from_ne_true}
use Rattle.spirv_words.specs.declared.opcodes.Op.{Op}
use Rattle.spirv_words.specs.declared.opcodes.Op.TheVariants.{TypeBool, TypeFunction, Function}
use Rattle.spirv_words.specs.declared.images.Instruction.{Instruction}
use Rattle.spirv_words.specs.declared.images.Image.{Image}
use Rattle.spirv_words.specs.Machine.{Standing, First, standing, result_at, first_of, result_of, if_some, place_of}
use Rattle.spirv_words.specs.Layouts as layouts
use Rattle.image_lookup.specs.declared.sorts.Sort.{Sort}
use Rattle.image_lookup.specs.declared.sorts.Sort.TheVariants.{VoidType, BoolType, IntType, VectorType, ArrayType, RuntimeArrayType, StructType}
use Rattle.image_lookup.specs.Sorts.{sort_of}
use Rattle.image_lookup.specs.Lookups.{sort_in, sort, operands, operand}
use Rattle.image_lookup.proofs.Found.{definition-none}
use Rattle.image_declarations.specs.declared.types.TypeFacts.{TypeFacts}
use Rattle.image_declarations.specs.Types.{facts_by, with_facts, no_facts, known_after, type_facts}
use Rattle.image_declarations.specs.Holdings.{is_data}
use Rattle.image_operands.specs.Memory.{is_pointer_sort, is_pointer}
use Rattle.image_types.specs.Rules.{rule_of}
use Rattle.image_types.specs.Functions.{is_void_sort, is_void, is_function_type_sort, is_function_type, is_function, function_fits}
use Rattle.image_types.specs.Parts.{is_parameter_type, function_type_fits}
use Rattle.image_types.specs.Checking.{meets, context_at}
use Rattle.image_calls.specs.Arguments.{parameter_types}
use Rattle.spirv_check.specs.Valid.{Valid}
use Rattle.image_scopes.specs.Facts.{Begun}
use Rattle.image_scopes.proofs.Kept.{meets_rule, operands_fit}
use Rattle.image_scopes.proofs.Values.{DefinedAt, defined_at, sort_is}
use Rattle.image_scopes.proofs.Used.{result_is_here}
use Rattle.image_scopes.proofs.Contexts.{operands_is}
use Rattle.image_scopes.proofs.Entering.{function}

-- ---- what has data

abbrev pub is_data_sort : Sort → Bool
is_data_sort BoolType = true
is_data_sort IntType = true
is_data_sort VectorType = true
is_data_sort ArrayType = true
is_data_sort StructType = true
is_data_sort sort = false

-- an instruction that declares this type, which may have data
record Declares (is : List Instruction) (id : ℕ) : Type 0 where
  place : ℕ
  instruction : Instruction
  stands : slice_get is place ≡ Some instruction
  data_sort : is_data_sort (sort_of instruction.op) ≡ true
  first : slice_index instruction.operands 0 ≡ id

one_or_other : (b : Bool) (f g : TypeFacts) → (cond b f g).is_data ≡ true → (g.is_data ≡ true) ⊎ (b ≡ true) × (f.is_data ≡ true)
one_or_other true f g e = inr (refl, e)
one_or_other false f g e = inl e

tested : (n id : ℕ) (s : Sort) (f g : TypeFacts) → is_data_sort s ≡ true → (cond (nat_eq n id) f g).is_data ≡ true
    → (g.is_data ≡ true) ⊎ ((is_data_sort s ≡ true) × (n ≡ id))
tested n id s f g h e = elim (one_or_other (nat_eq n id) f g e) [ inl l ↦ inl l | inr r ↦ inr (h, eqb-true n id r.0) ]

told : (code : List Instruction) (known : ℕ → TypeFacts) (s : Sort) (os : List ℕ) (id : ℕ)
    → (if_some (facts_by code known s os) (known id) (λ f. cond (nat_eq (slice_index os 0) id) f (known id))).is_data ≡ true
    → ((known id).is_data ≡ true) ⊎ ((is_data_sort s ≡ true) × (slice_index os 0 ≡ id))
told code known BoolType os id e = tested (slice_index os 0) id BoolType _ (known id) refl e
told code known IntType os id e = tested (slice_index os 0) id IntType _ (known id) refl e
told code known VectorType os id e = tested (slice_index os 0) id VectorType _ (known id) refl e
told code known ArrayType os id e = tested (slice_index os 0) id ArrayType _ (known id) refl e
told code known StructType os id e = tested (slice_index os 0) id StructType _ (known id) refl e
told code known RuntimeArrayType os id e = elim (one_or_other (nat_eq (slice_index os 0) id) _ (known id) e) [ inl l ↦ inl l | inr r ↦ (let h : false ≡ true = r.1 in cc) ]
told code known s os id e = inl e

declared_by : (code is : List Instruction) (known : ℕ → TypeFacts) (id : ℕ) → (known_after code is known id).is_data ≡ true
    → ((known id).is_data ≡ true) ⊎ Declares is id
declared_by code [] known id e = inl e
declared_by code (i ∷ is) known id e = elim (declared_by code is (with_facts code i known) id e) [
  | inl l ↦ elim (told code known (sort_of i.op) i.operands id l) [
    | inl k ↦ inl k
    | inr r ↦ inr (record { place = 0; instruction = i; stands = refl; data_sort = r.0; first = r.1 })
  ]
  | inr d ↦ inr (record { place = suc d.place; instruction = d.instruction; stands = d.stands; data_sort = d.data_sort; first = d.first })
]

some_operand : (op : Op) → is_data_sort (sort_of op) ≡ true → layouts.fits op [] ≡ true → ⊥
some_operand TypeBool s e = cc
some_operand op s e = cc

stands_first : (op : Op) → is_data_sort (sort_of op) ≡ true → standing op ≡ First
stands_first TypeBool s = refl
stands_first op s = cc

first_is : (op : Op) (os : List ℕ) → is_data_sort (sort_of op) ≡ true → layouts.fits op os ≡ true → first_of os ≡ Some (slice_index os 0)
first_is op [] s e = absurd (some_operand op s e)
first_is op (r ∷ rest) s e = refl

void_has_none : (s : Sort) → is_data_sort s ≡ true → is_void_sort s ≡ true → ⊥
void_has_none VoidType d v = cc
void_has_none s d v = cc

void_is_no_pointer : (s : Sort) → is_pointer_sort s ≡ true → is_void_sort s ≡ true → ⊥
void_is_no_pointer VoidType p v = cc
void_is_no_pointer s p v = cc

function_type_op : (op : Op) → is_function_type_sort (sort_of op) ≡ true → op ≡ TypeFunction
function_type_op TypeFunction e = refl
function_type_op op e = cc

one_of_all : (p : ℕ → Bool) (xs : List ℕ) (j x : ℕ) → list_all p xs ≡ true → slice_get xs j ≡ Some x → p x ≡ true
one_of_all p [] j x h e = cc
one_of_all p (y ∷ ys) zero x h e = let same : y ≡ x = cc in ap p (sym same) ∙ (and_parts (p y) (list_all p ys) h).0
one_of_all p (y ∷ ys) (suc j) x h e = one_of_all p ys j x (and_parts (p y) (list_all p ys) h).1 e

typed_place : (code : List Instruction) (t : ℕ) (o : Option ℕ) → place_of code t 0 ≡ o → is_function_type code t ≡ true → (p : ℕ) × (place_of code t 0 ≡ Some p)
unfolding sort
typed_place code t None e h =
    let none : false ≡ true = sym (ap (λ (i : Option Instruction). is_function_type_sort (sort_in i)) (definition-none code t 0 e)) ∙ h in cc
typed_place code t (Some p) e h = (p, e)

module _ (image : Image) (v : Valid image) where
  no_facts_first : (t : ℕ) → is_data image.instructions t ≡ true → Declares image.instructions t
  unfolding type_facts
  no_facts_first t e = elim (declared_by image.instructions image.instructions (λ id. no_facts) t e) [
    | inl l ↦ (let h : false ≡ true = l in cc)
    | inr d ↦ d
  ]

  -- a type with data is bool, int or uint, a vector, an array or a struct
  pub data_sorted : (t : ℕ) → is_data image.instructions t ≡ true → is_data_sort (sort image.instructions t) ≡ true
  data_sorted t e =
      let is : List Instruction = image.instructions in
      let d : Declares is t = no_facts_first t e in
      let i : Instruction = d.instruction in
      let fits : layouts.fits i.op i.operands ≡ true = operands_fit image v d.place i d.stands in
      let result : result_of i.op i.operands ≡ Some t =
      ap (λ (s : Standing). result_at s i.operands) (stands_first i.op d.data_sort)
      ∙ (first_is i.op i.operands d.data_sort fits ∙ ap (λ (n : ℕ). Some n) d.first) in
      let there : place_of is t 0 ≡ Some d.place = result_is_here image v d.place i d.stands t result in
      ap is_data_sort (sort_is is t d.place i there d.stands) ∙ d.data_sort

  -- void has no data
  pub data_is_not_void : (t : ℕ) → is_data image.instructions t ≡ true → is_void image.instructions t ≡ false
  data_is_not_void t e = false_from_ne_true (is_void image.instructions t) (λ h. void_has_none (sort image.instructions t) (data_sorted t e) h)

  -- ---- the type of a function

  type_right : (type p : ℕ) → place_of image.instructions type 0 ≡ Some p → is_function_type image.instructions type ≡ true
      → ((is_void image.instructions (operand image.instructions type 1) || is_data image.instructions (operand image.instructions type 1)) ≡ true)
      × (list_all (λ t. is_parameter_type image.instructions t) (drop 2 (operands image.instructions type)) ≡ true)
  unfolding function_type_fits
  type_right type p there e =
      let is : List Instruction = image.instructions in
      let d : DefinedAt is type p = defined_at is type p there in
      let i : Instruction = d.instruction in
      let op : i.op ≡ TypeFunction = function_type_op i.op (ap is_function_type_sort (sym (sort_is is type p i there d.stands)) ∙ e) in
      let same : i.operands ≡ operands is type = sym (operands_is is type p i there d.stands) in
      let m : meets (rule_of TypeFunction) is (context_at is p) p i (drop (suc p) is) ≡ true =
      ap (λ (o : Op). meets (rule_of o) is (context_at is p) p i (drop (suc p) is)) (sym op) ∙ meets_rule image v p i d.stands in
      let q = and_parts (is_void is (slice_index i.operands 1) || is_data is (slice_index i.operands 1)) (list_all (λ t. is_parameter_type is t) (drop 2 i.operands)) m in (
        ap (λ (os : List ℕ). is_void is (slice_index os 1) || is_data is (slice_index os 1)) (sym same) ∙ q.0,
        ap (λ (os : List ℕ). list_all (λ t. is_parameter_type is t) (drop 2 os)) (sym same) ∙ q.1,
      )

  record Signature (type result : ℕ) : Type 0 where
    is_type : is_function_type image.instructions type ≡ true
    gives : operand image.instructions type 1 ≡ result

  signed : (p result f type : ℕ) → slice_get image.instructions p ≡ Some (record { op = Function; operands = result ∷ f ∷ 0 ∷ type ∷ [] }) → Signature type result
  unfolding function_fits
  signed p result f type stands =
      let is : List Instruction = image.instructions in
      let m = and_parts (is_function_type is type && nat_eq (operand is type 1) result) _
      (meets_rule image v p (record { op = Function; operands = result ∷ f ∷ 0 ∷ type ∷ [] }) stands) in
      let n = and_parts (is_function_type is type) (nat_eq (operand is type 1) result) m.0 in
      record { is_type = n.0; gives = eqb-true (operand is type 1) result n.1 }

  module _ (f : ℕ) (callee : is_function image.instructions f ≡ true) where
    its_type : (b : Begun image.instructions f) → Signature b.type b.result
    its_type b = signed b.place b.result f b.type b.stands

    its_place : (b : Begun image.instructions f) → (p : ℕ) × (place_of image.instructions b.type 0 ≡ Some p)
    its_place b = typed_place image.instructions b.type (place_of image.instructions b.type 0) refl (its_type b).is_type

    right_by : (b : Begun image.instructions f)
        → ((is_void image.instructions (operand image.instructions f 0) || is_data image.instructions (operand image.instructions f 0)) ≡ true)
        × (list_all (λ t. is_parameter_type image.instructions t) (parameter_types image.instructions f) ≡ true)
    right_by b =
        let is : List Instruction = image.instructions in
        let r = type_right b.type (its_place b).0 (its_place b).1 (its_type b).is_type in
        let same : operand is b.type 1 ≡ operand is f 0 = (its_type b).gives ∙ sym b.gives in (
          ap (λ (t : ℕ). is_void is t || is_data is t) (sym same) ∙ r.0,
          ap (λ (t : ℕ). list_all (λ t. is_parameter_type is t) (drop 2 (operands is t))) b.of_type ∙ r.1,
        )

    -- a function gives back nothing, or data
    pub result_is_typed : (is_void image.instructions (operand image.instructions f 0) || is_data image.instructions (operand image.instructions f 0)) ≡ true
    result_is_typed = (right_by (function image v f callee)).0

    -- a parameter is data or a pointer
    pub parameter_is_typed : (j t : ℕ) → slice_get (parameter_types image.instructions f) j ≡ Some t → is_parameter_type image.instructions t ≡ true
    parameter_is_typed j t at = one_of_all (λ s. is_parameter_type image.instructions s) (parameter_types image.instructions f) j t (right_by (function image v f callee)).1 at

    -- no parameter is void
    pub parameter_is_not_void : (j t : ℕ) → slice_get (parameter_types image.instructions f) j ≡ Some t → is_void image.instructions t ≡ false
    parameter_is_not_void j t at = elim (or_cases (is_data image.instructions t) (is_pointer image.instructions t) (parameter_is_typed j t at)) [
      | inl d ↦ data_is_not_void t d
      | inr p ↦ false_from_ne_true (is_void image.instructions t) (λ h. void_is_no_pointer (sort image.instructions t) p h)
    ]
