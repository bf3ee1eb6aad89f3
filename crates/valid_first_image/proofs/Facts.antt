-- What the types of a shader's image hold.
use Rattle.std.proofs.Common.{◌≡◌, ◌≢◌, ℕ, zero, suc, ◌+◌, ◌<◌, Bool, true, false, ◌||◌, cond, nat_eq, List, [], ◌∷◌, ◌++◌, Option, Some, None, refl, ap, ◌∙◌, arith}
use Rattle.std.specs.Prelude.{slice_get, slice_index}
use Rattle.std.proofs.lemmas.Bool.{eq-eqb, ne_eqb}
use Rattle.spirv_words.specs.declared.opcodes.Op.{Op}
use Rattle.spirv_words.specs.declared.opcodes.Op.TheVariants.{TypeBool, TypeInt, TypeVector, TypeArray, TypeRuntimeArray, TypeStruct, Variable}
use Rattle.spirv_words.specs.declared.images.Instruction.{Instruction}
use Rattle.spirv_words.specs.Machine.{result_of}
use Rattle.image_declarations.specs.declared.types.TypeFacts.{TypeFacts}
use Rattle.image_declarations.specs.Types.{no_facts, with_facts, known_after, type_facts}
use Rattle.image_declarations.specs.Reach.{is_id, wrapper_of, wraps}
use Rattle.image_declarations.specs.Holdings.{is_data, is_unbounded, extent, is_wrapper}
use Rattle.first_form.specs.declared.shader.Shader.{Shader}
use Rattle.first_image.specs.Templates.{ins}
use Rattle.first_image.specs.Sections.{constants_code}
use Rattle.first_image.proofs.Numbered.{Counts, Numbered, numbered_on}
use Rattle.first_image.proofs.Constants.{constants_numbered}
use Rattle.valid_first_image.proofs.Sections.{ks, a, n, code, body, before_constants, after_constants, after_constants_numbered}
use Rattle.valid_first_image.proofs.Fitting.{Points}

-- ---- facts of a type stay, since later types have higher ids

module _ (code : List Instruction) where
  passes : (r j : ℕ) (f g : TypeFacts) → r ≢ j → cond (nat_eq r j) f g ≡ g
  passes r j f g ne = ap (λ b. cond b f g) (ne_eqb r j ne)

  first_passes : (os : List ℕ) (n j : ℕ) (f g : TypeFacts) (P : ℕ → Type 0) → 0 < j → j < n → Counts (result_of TypeBool os) n P → cond (nat_eq (slice_index os 0) j) f g ≡ g
  first_passes [] n j f g P low lt h = passes 0 j f g (λ e. absurd (omega arith))
  first_passes (r ∷ os) n j f g P low lt h = passes r j f g (λ e. absurd (omega (arith, h.0)))

  with_stays : (op : Op) (os : List ℕ) (known : ℕ → TypeFacts) (n j : ℕ) (P : ℕ → Type 0) → 0 < j → j < n → Counts (result_of op os) n P
      → with_facts code (ins op os) known j ≡ known j
  with_stays TypeBool os known n j P low lt h = first_passes os n j _ _ P low lt h
  with_stays TypeInt os known n j P low lt h = first_passes os n j _ _ P low lt h
  with_stays TypeVector os known n j P low lt h = first_passes os n j _ _ P low lt h
  with_stays TypeArray os known n j P low lt h = first_passes os n j _ _ P low lt h
  with_stays TypeRuntimeArray os known n j P low lt h = first_passes os n j _ _ P low lt h
  with_stays TypeStruct os known n j P low lt h = first_passes os n j _ _ P low lt h
  with_stays op os known n j P low lt h = refl

  counts_on : {A : Type 0} (x y : A) (o : Option ℕ) (n j : ℕ) (P : ℕ → Type 0) → j < n → ((n : ℕ) → j < n → P n → x ≡ y) → Counts o n P → x ≡ y
  counts_on x y None n j P lt f h = f n lt h
  counts_on x y (Some r) n j P lt f h = f (n + 1) (omega arith) h.1

  pub facts_stay : (is : List Instruction) (known : ℕ → TypeFacts) (n n' j : ℕ) → Numbered n is n' → 0 < j → j < n → known_after code is known j ≡ known j
  facts_stay [] known n n' j h low lt = refl
  facts_stay (i ∷ is) known n n' j h low lt =
      counts_on (known_after code is (with_facts code i known) j) (with_facts code i known j) (result_of i.op i.operands) n j (λ m. Numbered m is n') lt
      (λ m lt h. facts_stay is (with_facts code i known) m n' j h low lt) h
      ∙ with_stays i.op i.operands known n j (λ m. Numbered m is n') low lt h

  pub known_on : (is js : List Instruction) (known : ℕ → TypeFacts) → known_after code (is ++ js) known ≡ known_after code js (known_after code is known)
  known_on [] js known = refl
  known_on (i ∷ is) js known = known_on is js (with_facts code i known)

  -- ---- a variable's wrapper

  or_right : (b c : Bool) → c ≡ true → (b || c) ≡ true
  or_right true c e = refl
  or_right false c e = e

  pub wraps_by : (is : List Instruction) (m x : ℕ) (i : Instruction) → slice_get is m ≡ Some i → is_id (wrapper_of code i) x ≡ true → wraps code is x ≡ true
  wraps_by [] m x i at h = absurd cc
  wraps_by (j ∷ is) zero x i at h =
      let s : j ≡ i = cc in
      ap (λ (j : Instruction). is_id (wrapper_of code j) x || wraps code is x) s ∙ ap (λ b. b || wraps code is x) h
  wraps_by (j ∷ is) (suc m) x i at h = or_right (is_id (wrapper_of code j) x) (wraps code is x) (wraps_by is m x i at h)

  pub wrapper_ok : (m x q v : ℕ) → slice_get code m ≡ Some (ins Variable (q ∷ v ∷ 12 ∷ [])) → Points code q 12 x → is_wrapper code x ≡ true
  unfolding is_wrapper
  wrapper_ok m x q v at p = wraps_by code m x (ins Variable (q ∷ v ∷ 12 ∷ [])) at (rw (p.is_sort, p.of_is) (eq-eqb x x refl))

-- ---- the types of the image

module _ (home : List ℕ) (p : Shader) where
  abbrev first_facts : ℕ → TypeFacts
  first_facts = known_after (code home p) (before_constants home p) (λ id. no_facts)

  -- the facts of a type that stands in front of the constants
  front_facts : (j : ℕ) → 0 < j → j < 13 → type_facts (code home p) j ≡ first_facts j
  unfolding type_facts
  front_facts j low lt =
      facts_stay (code home p) (constants_code 13 (ks home p) ++ after_constants home p) first_facts 13 (body home p).id j
      (numbered_on (constants_code 13 (ks home p)) (after_constants home p) 13 (a home p) (body home p).id (constants_numbered 13 (ks home p)) (after_constants_numbered home p)) low lt

  pub bool_data : is_data (code home p) 2 ≡ true
  bool_data = ap (λ (f : TypeFacts). f.is_data) (front_facts 2 (omega arith) (omega arith))

  pub int_data : is_data (code home p) 3 ≡ true
  int_data = ap (λ (f : TypeFacts). f.is_data) (front_facts 3 (omega arith) (omega arith))

  pub uint_data : is_data (code home p) 4 ≡ true
  uint_data = ap (λ (f : TypeFacts). f.is_data) (front_facts 4 (omega arith) (omega arith))

  pub uint_extent : extent (code home p) 4 ≡ 4
  uint_extent = ap (λ (f : TypeFacts). f.extent) (front_facts 4 (omega arith) (omega arith))

  pub int2_data : is_data (code home p) 5 ≡ true
  int2_data = ap (λ (f : TypeFacts). f.is_data) (front_facts 5 (omega arith) (omega arith))

  pub int3_data : is_data (code home p) 6 ≡ true
  int3_data = ap (λ (f : TypeFacts). f.is_data) (front_facts 6 (omega arith) (omega arith))

  pub int4_data : is_data (code home p) 7 ≡ true
  int4_data = ap (λ (f : TypeFacts). f.is_data) (front_facts 7 (omega arith) (omega arith))

  pub uint2_data : is_data (code home p) 8 ≡ true
  uint2_data = ap (λ (f : TypeFacts). f.is_data) (front_facts 8 (omega arith) (omega arith))

  pub uint3_data : is_data (code home p) 9 ≡ true
  uint3_data = ap (λ (f : TypeFacts). f.is_data) (front_facts 9 (omega arith) (omega arith))

  pub uint4_data : is_data (code home p) 10 ≡ true
  uint4_data = ap (λ (f : TypeFacts). f.is_data) (front_facts 10 (omega arith) (omega arith))

  -- the array without length
  abbrev constant_facts : ℕ → TypeFacts
  constant_facts = known_after (code home p) (constants_code 13 (ks home p)) first_facts

  pub array_unbounded : is_unbounded (code home p) (a home p) ≡ true
  unfolding type_facts
  array_unbounded =
      let i = ins TypeRuntimeArray (a home p ∷ 4 ∷ []) in
      let rest : List Instruction = tail (after_constants home p) in
      let known = with_facts (code home p) i constant_facts in
      ap (λ (f : ℕ → TypeFacts). (f (a home p)).unbounded) (known_on (code home p) (constants_code 13 (ks home p)) (after_constants home p) first_facts)
      ∙ ap (λ (f : TypeFacts). f.unbounded) (facts_stay (code home p) rest known (a home p + 1) (body home p).id (a home p) (after_constants_numbered home p).1 (omega arith) (omega arith))
      ∙ ap (λ b. (cond b (record { is_data = false; unbounded = true; extent = 0 }) (constant_facts (a home p))).unbounded) (eq-eqb (a home p) (a home p) refl)
    where
      tail : List Instruction → List Instruction
      tail [] = []
      tail (i ∷ is) = is
