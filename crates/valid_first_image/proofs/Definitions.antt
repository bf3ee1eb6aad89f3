-- Which instruction of a shader's image defines each id, and under which function and block it stands.
use Rattle.std.proofs.Common.{◌≡◌, ℕ, zero, suc, ◌+◌, ◌<◌, ◌≤◌, Bool, true, false, ◌||◌, nat_eq, cond, List, [], ◌∷◌, ◌++◌, length, Some, refl, sym, ap, ◌∙◌, subst, arith, append_assoc, length-append}
use Rattle.std.specs.Prelude.{slice_get}
use Rattle.std.proofs.lemmas.Bool.{eqb-true}
use Rattle.spirv_words.specs.declared.opcodes.Op.TheVariants.{TypeVoid, TypeBool, TypeInt, TypeVector, TypeRuntimeArray, TypeStruct, TypePointer, TypeFunction, Constant, Function, Label, Variable, Load, Store}
use Rattle.spirv_words.specs.declared.images.Instruction.{Instruction}
use Rattle.spirv_words.specs.declared.images.Image.{Image}
use Rattle.spirv_words.specs.Machine.{result_of}
use Rattle.image_places.specs.Places.{function_of}
use Rattle.image_types.specs.declared.functions.Context.{Context}
use Rattle.image_types.specs.Functions.{outside}
use Rattle.image_types.specs.Checking.{context_at}
use Rattle.first_form.specs.declared.shader.Shader.{Shader}
use Rattle.first_image.specs.Templates.{ins}
use Rattle.first_image.specs.Sections.{constants_code}
use Rattle.first_image.specs.Image.{position, image_of}
use Rattle.first_image.specs.Emitted.{entry_start, entry_end}
use Rattle.first_image.proofs.Lists.{contains, position_low}
use Rattle.first_image.proofs.Standing.{HasAt, has_front, has_back}
use Rattle.valid_first_image.proofs.Walks.{AllAt, all_front, all_back, all_get}
use Rattle.valid_first_image.proofs.Quiet.{Under, quiet, under_all, under_end, opens_function, opens_block, context_next, context_all, context_end}
use Rattle.valid_first_image.proofs.Named.{DefinedBy, Usable, is_fixed, usable_fixed, usable_outside, usable_inside}
use Rattle.valid_first_image.proofs.Sections.{ks, a, n, k, b, e, code, body, before_constants, before_entry, after_constants, after_place, body_place, code_numbered, has_code, has_constants, has_after, quiet_front, quiet_body}

pub has_get : (code : List Instruction) (p m : ℕ) (is : List Instruction) (i : Instruction) → HasAt code p is → slice_get is m ≡ Some i → slice_get code (p + m) ≡ Some i
has_get code p m [] i h e = absurd cc
has_get code p zero (x ∷ is) i h e = let z : p ≡ p + 0 = omega arith in subst (λ q. slice_get code q ≡ Some i) z (h.0 ∙ e)
has_get code p (suc m) (x ∷ is) i h e = let z : p + 1 + m ≡ p + suc m = omega arith in subst (λ q. slice_get code q ≡ Some i) z (has_get code (p + 1) m is i h.1 e)

-- ---- the constants

pub length-constants : (id : ℕ) (ks : List ℕ) → length (constants_code id ks) ≡ length ks
length-constants id [] = refl
length-constants id (k ∷ ks) = omega (arith, length-constants (id + 1) ks)

constant_here : (t : Bool) (c x id : ℕ) (ks : List ℕ) → nat_eq c x ≡ t → (t || contains c ks) ≡ true
    → (contains c ks ≡ true → slice_get (constants_code (id + 1) ks) (position c ks) ≡ Some (ins Constant (4 ∷ (id + 1 + position c ks) ∷ c ∷ [])))
    → slice_get (constants_code id (x ∷ ks)) (cond t 0 (suc (position c ks))) ≡ Some (ins Constant (4 ∷ (id + cond t 0 (suc (position c ks))) ∷ c ∷ []))
constant_here true c x id ks is h f =
    let same : x ≡ c = sym (eqb-true c x is) in
    let z : id ≡ id + 0 = omega arith in
    ap (λ y. Some (ins Constant (4 ∷ y ∷ x ∷ []))) z ∙ ap (λ y. Some (ins Constant (4 ∷ (id + 0) ∷ y ∷ []))) same
constant_here false c x id ks is h f =
    let z : id + 1 + position c ks ≡ id + suc (position c ks) = omega arith in
    f h ∙ ap (λ y. Some (ins Constant (4 ∷ y ∷ c ∷ []))) z

constant_stands : (c id : ℕ) (ks : List ℕ) → contains c ks ≡ true → slice_get (constants_code id ks) (position c ks) ≡ Some (ins Constant (4 ∷ (id + position c ks) ∷ c ∷ []))
constant_stands c id [] h = absurd cc
constant_stands c id (x ∷ ks) h = constant_here (nat_eq c x) c x id ks refl h (constant_stands c (id + 1) ks)

no_context_of : (is : List Instruction) → context_at is 0 ≡ outside
unfolding context_at
no_context_of is = refl

module _ (home : List ℕ) (p : Shader) where
  no_context : context_at (code home p) 0 ≡ outside
  no_context = no_context_of (code home p)

  abbrev pub image : Image
  image = image_of home p

  abbrev pub Def : ℕ → ℕ → Instruction → Type 0
  Def x q i = DefinedBy image (code_numbered home p) x q i

  abbrev pub Uses : ℕ → ℕ → Type 0
  Uses h x = Usable image (code_numbered home p) h x

  -- ---- the types

  pub void_defined : Def 1 12 (ins TypeVoid (1 ∷ []))
  void_defined = record { stands = refl; result = refl }

  pub bool_defined : Def 2 13 (ins TypeBool (2 ∷ []))
  bool_defined = record { stands = refl; result = refl }

  pub int_defined : Def 3 14 (ins TypeInt (3 ∷ 32 ∷ 1 ∷ []))
  int_defined = record { stands = refl; result = refl }

  pub uint_defined : Def 4 15 (ins TypeInt (4 ∷ 32 ∷ 0 ∷ []))
  uint_defined = record { stands = refl; result = refl }

  pub int2_defined : Def 5 16 (ins TypeVector (5 ∷ 3 ∷ 2 ∷ []))
  int2_defined = record { stands = refl; result = refl }

  pub int3_defined : Def 6 17 (ins TypeVector (6 ∷ 3 ∷ 3 ∷ []))
  int3_defined = record { stands = refl; result = refl }

  pub int4_defined : Def 7 18 (ins TypeVector (7 ∷ 3 ∷ 4 ∷ []))
  int4_defined = record { stands = refl; result = refl }

  pub uint2_defined : Def 8 19 (ins TypeVector (8 ∷ 4 ∷ 2 ∷ []))
  uint2_defined = record { stands = refl; result = refl }

  pub uint3_defined : Def 9 20 (ins TypeVector (9 ∷ 4 ∷ 3 ∷ []))
  uint3_defined = record { stands = refl; result = refl }

  pub uint4_defined : Def 10 21 (ins TypeVector (10 ∷ 4 ∷ 4 ∷ []))
  uint4_defined = record { stands = refl; result = refl }

  pub constant_defined : (c : ℕ) → contains c (ks home p) ≡ true → Def (13 + position c (ks home p)) (24 + position c (ks home p)) (ins Constant (4 ∷ (13 + position c (ks home p)) ∷ c ∷ []))
  constant_defined c h = record {
    stands = has_get (code home p) 24 (position c (ks home p)) (constants_code 13 (ks home p)) (ins Constant (4 ∷ (13 + position c (ks home p)) ∷ c ∷ []))
        (has_front (code home p) 24 (constants_code 13 (ks home p)) (after_constants home p) (has_constants home p)) (constant_stands c 13 (ks home p) h);
    result = refl;
  }

  pub constant_before : (c : ℕ) → contains c (ks home p) ≡ true → 24 + position c (ks home p) < after_place home p
  constant_before c h = omega (arith, position_low c (ks home p) h, length-constants 13 (ks home p))

  -- behind the constants
  after_defined : (x m : ℕ) (i : Instruction) → slice_get (after_constants home p) m ≡ Some i → result_of i.op i.operands ≡ Some x → Def x (after_place home p + m) i
  after_defined x m i h r = record { stands = has_get (code home p) (after_place home p) m (after_constants home p) i (has_after home p) h; result = r }

  pub array_defined : Def (a home p) (after_place home p + 0) (ins TypeRuntimeArray (a home p ∷ 4 ∷ []))
  array_defined = after_defined (a home p) 0 _ refl refl

  pub wrapper_defined : Def (a home p + 1) (after_place home p + 1) (ins TypeStruct ((a home p + 1) ∷ a home p ∷ []))
  wrapper_defined = after_defined (a home p + 1) 1 _ refl refl

  pub word_pointer_defined : Def (n home p + 2) (after_place home p + 4) (ins TypePointer ((n home p + 2) ∷ 7 ∷ 4 ∷ []))
  word_pointer_defined = after_defined (n home p + 2) 4 _ refl refl

  pub triple_pointer_defined : Def (n home p + 7) (after_place home p + 9) (ins TypePointer ((n home p + 7) ∷ 7 ∷ 9 ∷ []))
  triple_pointer_defined = after_defined (n home p + 7) 9 _ refl refl

  pub cell_pointer_defined : Def (n home p + 10) (after_place home p + 12) (ins TypePointer ((n home p + 10) ∷ 12 ∷ 4 ∷ []))
  cell_pointer_defined = after_defined (n home p + 10) 12 _ refl refl

  pub input_pointer_defined : Def (n home p + 13) (after_place home p + 15) (ins TypePointer ((n home p + 13) ∷ 1 ∷ 9 ∷ []))
  input_pointer_defined = after_defined (n home p + 13) 15 _ refl refl

  pub wrapper_pointer_defined : Def (n home p + 15) (after_place home p + 17) (ins TypePointer ((n home p + 15) ∷ 12 ∷ (a home p + 1) ∷ []))
  wrapper_pointer_defined = after_defined (n home p + 15) 17 _ refl refl

  pub entry_type_defined : Def (n home p + 16) (after_place home p + 18) (ins TypeFunction ((n home p + 16) ∷ 1 ∷ []))
  entry_type_defined = after_defined (n home p + 16) 18 _ refl refl

  pub buffer_defined : Def (b home p) (after_place home p + 28) (ins Variable ((n home p + 15) ∷ b home p ∷ 12 ∷ []))
  buffer_defined = after_defined (b home p) 28 _ refl refl

  pub input_defined : Def (b home p + 1) (after_place home p + 29) (ins Variable ((n home p + 13) ∷ (b home p + 1) ∷ 1 ∷ []))
  input_defined = after_defined (b home p + 1) 29 _ refl refl

  pub entry_defined : Def (e home p) (after_place home p + 30) (ins Function (1 ∷ e home p ∷ 0 ∷ (n home p + 16) ∷ []))
  entry_defined = after_defined (e home p) 30 _ refl refl

  pub label_defined : Def (e home p + 1) (after_place home p + 31) (ins Label ((e home p + 1) ∷ []))
  label_defined = after_defined (e home p + 1) 31 _ refl refl

  pub local_defined : Def (e home p + 2) (after_place home p + 32) (ins Variable ((n home p + 7) ∷ (e home p + 2) ∷ 7 ∷ []))
  local_defined = after_defined (e home p + 2) 32 _ refl refl

  pub parameter_defined : Def (e home p + 3) (after_place home p + 33) (ins Load (9 ∷ (e home p + 3) ∷ (b home p + 1) ∷ []))
  parameter_defined = after_defined (e home p + 3) 33 _ refl refl

  -- ---- functions and blocks

  abbrev front : List Instruction
  front = before_constants home p ++ (constants_code 13 (ks home p) ++ before_entry home p)

  front_regroup : code home p ≡ front ++ (entry_start (n home p) (b home p) (e home p) ++ ((body home p).instructions ++ entry_end))
  front_regroup = sym (append_assoc (before_constants home p) (constants_code 13 (ks home p) ++ before_entry home p) _ ∙ ap (λ l. before_constants home p ++ l) (append_assoc (constants_code 13 (ks home p)) (before_entry home p) _))

  has_front_code : HasAt (code home p) 0 front
  has_front_code = has_front (code home p) 0 front _ (subst (HasAt (code home p) 0) front_regroup (has_code home p))

  -- in front of the entry no function is open
  pub front_under : AllAt (λ h i. Under (code home p) 0 0 (suc h)) 0 front
  front_under = under_all (code home p) 0 0 front 0 has_front_code (quiet_front home p) (record { function = refl; block = refl })

  length-front : 0 + length front ≡ after_place home p + 30
  length-front = omega (arith, length-append (constants_code 13 (ks home p)) (before_entry home p))

  entry_under : Under (code home p) 0 0 (after_place home p + 30)
  entry_under = subst (Under (code home p) 0 0) length-front (under_end (code home p) 0 0 front 0 has_front_code (quiet_front home p) (record { function = refl; block = refl }))

  abbrev pub function : ℕ
  function = suc (after_place home p + 30)

  abbrev pub block : ℕ
  block = suc (after_place home p + 31)

  label_under : Under (code home p) function 0 (after_place home p + 31)
  label_under =
      let z : suc (after_place home p + 30) ≡ after_place home p + 31 = omega arith in
      subst (Under (code home p) function 0) z (opens_function (code home p) (after_place home p + 30) 0 _ entry_defined.stands entry_under.block)

  body_under : Under (code home p) function block (after_place home p + 32)
  body_under =
      let z : suc (after_place home p + 31) ≡ after_place home p + 32 = omega arith in
      subst (Under (code home p) function block) z (opens_block (code home p) (after_place home p + 31) function _ label_defined.stands label_under.function)

  -- an instruction of the entry's block
  pub record Inside (h : ℕ) : Type 0 where
    pub under : Under (code home p) function block (suc h)
    pub past : after_place home p + 32 ≤ h

  -- the code of the entry's block
  abbrev pub At : ℕ → List Instruction → Type 0
  At h is = AllAt (λ h i. (slice_get (code home p) h ≡ Some i) × Inside h) h is

  at_all : (is : List Instruction) (h : ℕ) → after_place home p + 32 ≤ h → HasAt (code home p) h is → AllAt (λ h i. Under (code home p) function block (suc h)) h is → At h is
  at_all [] h low has u = tt
  at_all (i ∷ is) h low has u = ((has.0, record { under = u.0; past = low }), at_all is (h + 1) (omega arith) has.1 u.1)

  abbrev pub inner : List Instruction
  inner = ins Variable ((n home p + 7) ∷ (e home p + 2) ∷ 7 ∷ []) ∷ ins Load (9 ∷ (e home p + 3) ∷ (b home p + 1) ∷ []) ∷ ins Store ((e home p + 2) ∷ (e home p + 3) ∷ []) ∷ []

  abbrev pub opening : List Instruction
  opening = before_entry home p ++ (ins Function (1 ∷ e home p ∷ 0 ∷ (n home p + 16) ∷ []) ∷ ins Label ((e home p + 1) ∷ []) ∷ [])

  has_inner : HasAt (code home p) (after_place home p + 32) (inner ++ (body home p).instructions)
  has_inner = has_front (code home p) (after_place home p + 32) (inner ++ (body home p).instructions) entry_end
      (subst (HasAt (code home p) (after_place home p + 32)) (sym (append_assoc inner (body home p).instructions entry_end)) (has_back (code home p) (after_place home p) opening (inner ++ ((body home p).instructions ++ entry_end)) (has_after home p)))

  inner_quiet : quiet (inner ++ (body home p).instructions) ≡ true
  inner_quiet = quiet_body home p

  all_at : At (after_place home p + 32) (inner ++ (body home p).instructions)
  all_at = at_all (inner ++ (body home p).instructions) (after_place home p + 32) (omega arith) has_inner (under_all (code home p) function block (inner ++ (body home p).instructions) (after_place home p + 32) has_inner inner_quiet body_under)

  pub inner_at : At (after_place home p + 32) inner
  inner_at = all_front _ inner (body home p).instructions (after_place home p + 32) all_at

  pub body_at : At (body_place home p) (body home p).instructions
  body_at =
      let z : after_place home p + 32 + 3 ≡ body_place home p = omega arith in
      subst (λ h. At h (body home p).instructions) z (all_back _ inner (body home p).instructions (after_place home p + 32) all_at)

  -- ---- what may be used where

  pub uses_type : (h x q : ℕ) (i : Instruction) → Def x q i → is_fixed i.op ≡ true → q < h → Uses h x
  uses_type = usable_fixed image (code_numbered home p)

  pub uses_inside : (h x q : ℕ) (i : Instruction) → Def x q i → Inside q → Inside h → q < h → Uses h x
  uses_inside h x q i d u v lt = usable_inside image (code_numbered home p) h x q function block i d lt u.under.function u.under.block v.under.function v.under.block

  before_entry_under : AllAt (λ h i. Under (code home p) 0 0 (suc h)) (after_place home p) (before_entry home p)
  before_entry_under =
      let c = constants_code 13 (ks home p) in
      let P : ℕ → Instruction → Type 0 = λ h i. Under (code home p) 0 0 (suc h) in
      let z : 0 + length (before_constants home p) + length c ≡ after_place home p = omega arith in
      subst (λ h. AllAt P h (before_entry home p)) z
      (all_back P c (before_entry home p) (0 + length (before_constants home p)) (all_back P (before_constants home p) (c ++ before_entry home p) 0 front_under))

  no_function : (m : ℕ) (i : Instruction) → slice_get (before_entry home p) m ≡ Some i → function_of (code home p) (suc (after_place home p + m)) ≡ 0
  no_function m i h = (all_get (λ h i. Under (code home p) 0 0 (suc h)) (before_entry home p) (after_place home p) m i before_entry_under h).function

  pub uses_buffer : (h : ℕ) → Uses h (b home p)
  uses_buffer h = usable_outside image (code_numbered home p) h (b home p) (after_place home p + 28) _ buffer_defined (no_function 28 _ refl)

  pub uses_input : (h : ℕ) → Uses h (b home p + 1)
  uses_input h = usable_outside image (code_numbered home p) h (b home p + 1) (after_place home p + 29) _ input_defined (no_function 29 _ refl)

  -- ---- what the rules on types know of the function

  pub front_context : AllAt (λ h i. context_at (code home p) h ≡ outside) 0 front
  front_context = context_all (code home p) outside front 0 has_front_code (quiet_front home p) no_context

  before_entry_context : AllAt (λ h i. context_at (code home p) h ≡ outside) (after_place home p) (before_entry home p)
  before_entry_context =
      let c = constants_code 13 (ks home p) in
      let P : ℕ → Instruction → Type 0 = λ h i. context_at (code home p) h ≡ outside in
      let z : 0 + length (before_constants home p) + length c ≡ after_place home p = omega arith in
      subst (λ h. AllAt P h (before_entry home p)) z
      (all_back P c (before_entry home p) (0 + length (before_constants home p)) (all_back P (before_constants home p) (c ++ before_entry home p) 0 front_context))

  pub outside_context : (m : ℕ) (i : Instruction) → slice_get (before_entry home p) m ≡ Some i → context_at (code home p) (after_place home p + m) ≡ outside
  outside_context m i h = all_get (λ h i. context_at (code home p) h ≡ outside) (before_entry home p) (after_place home p) m i before_entry_context h

  -- in the entry
  abbrev pub within : Context
  within = record { inside = true; result_type = 1; type_id = n home p + 16; parameters = 0 }

  entry_context : context_at (code home p) (after_place home p + 30) ≡ outside
  entry_context = ap (context_at (code home p)) (sym length-front) ∙ context_end (code home p) outside front 0 has_front_code (quiet_front home p) no_context

  pub inner_context : context_at (code home p) (after_place home p + 32) ≡ within
  inner_context =
      let y : after_place home p + 30 + 1 ≡ after_place home p + 31 = omega arith in
      let z : after_place home p + 32 ≡ after_place home p + 31 + 1 = omega arith in
      ap (context_at (code home p)) z
      ∙ context_next (code home p) (after_place home p + 31) _ label_defined.stands
      ∙ ap (context_at (code home p)) (sym y)
      ∙ context_next (code home p) (after_place home p + 30) _ entry_defined.stands

  pub end_context : context_at (code home p) (body_place home p + length (body home p).instructions) ≡ within
  end_context =
      let z : body_place home p + length (body home p).instructions ≡ after_place home p + 32 + length (inner ++ (body home p).instructions) = omega arith in
      ap (context_at (code home p)) z ∙ context_end (code home p) within (inner ++ (body home p).instructions) (after_place home p + 32) has_inner inner_quiet inner_context
