-- Code in which no operand is a wrong id: each id is defined by one instruction, since ids of results go up by one.
use Rattle.std.proofs.Common.{◌≡◌, ℕ, zero, suc, ◌+◌, ◌^◌, ◌<◌, ◌≤◌, Bool, true, false, not, ◌&&◌, nat_eq, cond, List, [], ◌∷◌, length, Option, Some, None, refl, ap, ◌∙◌, subst, arith}
use Rattle.std.specs.Prelude.{slice_get, slice_index, nat_lt}
use Rattle.std.specs.List.{AllByRecursion}
use Rattle.std.specs.Option.{option_map}
use Rattle.std.proofs.lemmas.Bool.{eq-eqb, lt-ltb}
use Rattle.spirv_words.specs.declared.opcodes.Op.{Op}
use Rattle.spirv_words.specs.declared.opcodes.Op.TheVariants.{TypeVoid, TypeBool, TypeInt, TypeVector, TypeArray, TypeRuntimeArray, TypeStruct, TypePointer, TypeFunction, ConstantTrue, ConstantFalse, Constant, ConstantNull, Function, FunctionParameter, Variable, Label}
use Rattle.spirv_words.specs.declared.images.Instruction.{Instruction}
use Rattle.spirv_words.specs.declared.images.Image.{Image}
use Rattle.spirv_words.specs.Machine.{result_of, place_of, definition_of}
use Rattle.image_places.specs.declared.roles.Role.{Role}
use Rattle.image_places.specs.declared.roles.Role.TheVariants.{Literal, Result, Use, Mention}
use Rattle.image_places.specs.Roles.{text_end, role_of}
use Rattle.image_places.specs.Places.{op_at, function_of, block_of}
use Rattle.image_rules.specs.Ids.{scope_of, scope_at, holds, definition_at, definition, suits, is_wrong_id, role_in, is_wrong_in}
use Rattle.first_image.proofs.Lists.{some_is}
use Rattle.first_image.proofs.Numbered.{Counts, Numbered, place_found, definition_found}

-- ---- ids of results

counts_up : (o : Option ℕ) (n n' : ℕ) (P : ℕ → Type 0) → ((n : ℕ) → P n → n ≤ n') → Counts o n P → n ≤ n'
counts_up None n n' P f h = f n h
counts_up (Some r) n n' P f h = omega (arith, f (n + 1) h.1)

numbered_up : (is : List Instruction) (n n' : ℕ) → Numbered n is n' → n ≤ n'
numbered_up [] n n' h = omega arith
numbered_up (i ∷ is) n n' h = counts_up (result_of i.op i.operands) n n' (λ m. Numbered m is n') (λ n h. numbered_up is n n' h) h

first_within : (o : Option ℕ) (n n' r : ℕ) (P : ℕ → Type 0) → o ≡ Some r → ((n : ℕ) → P n → n ≤ n') → Counts o n P → (n ≤ r) × (r < n')
first_within None n n' r P e f h = absurd cc
first_within (Some q) n n' r P e f h = let g = some_is e in (omega (arith, g, h.0), omega (arith, g, h.0, f (n + 1) h.1))

later_within : (o : Option ℕ) (n n' r : ℕ) (P : ℕ → Type 0) → ((n : ℕ) → P n → (n ≤ r) × (r < n')) → Counts o n P → (n ≤ r) × (r < n')
later_within None n n' r P f h = f n h
later_within (Some q) n n' r P f h = let g = f (n + 1) h.1 in (omega (arith, g.0), g.1)

-- a result is one of the ids that are counted
result_within : (is : List Instruction) (n n' q r : ℕ) (i : Instruction) → Numbered n is n' → slice_get is q ≡ Some i → result_of i.op i.operands ≡ Some r → (n ≤ r) × (r < n')
result_within [] n n' q r i h e f = absurd cc
result_within (j ∷ is) n n' zero r i h e f =
    first_within (result_of j.op j.operands) n n' r (λ m. Numbered m is n') (ap (λ (j : Instruction). result_of j.op j.operands) (some_is e) ∙ f) (λ n h. numbered_up is n n' h) h
result_within (j ∷ is) n n' (suc q) r i h e f =
    later_within (result_of j.op j.operands) n n' r (λ m. Numbered m is n') (λ n h. result_within is n n' q r i h e f) h

-- ---- how far definitions hold

-- types and constants hold behind themselves, functions and Labels everywhere
abbrev pub is_fixed : Op → Bool
is_fixed TypeVoid = true
is_fixed TypeBool = true
is_fixed TypeInt = true
is_fixed TypeVector = true
is_fixed TypeArray = true
is_fixed TypeRuntimeArray = true
is_fixed TypeStruct = true
is_fixed TypePointer = true
is_fixed TypeFunction = true
is_fixed ConstantTrue = true
is_fixed ConstantFalse = true
is_fixed Constant = true
is_fixed ConstantNull = true
is_fixed Function = true
is_fixed Label = true
is_fixed op = false

fixed_holds : (op : Op) (q k f b g c : ℕ) → q < k → is_fixed op ≡ true → holds (scope_of op q g c) k f b ≡ true
fixed_holds TypeVoid q k f b g c lt e = lt-ltb q k lt
fixed_holds TypeBool q k f b g c lt e = lt-ltb q k lt
fixed_holds TypeInt q k f b g c lt e = lt-ltb q k lt
fixed_holds TypeVector q k f b g c lt e = lt-ltb q k lt
fixed_holds TypeArray q k f b g c lt e = lt-ltb q k lt
fixed_holds TypeRuntimeArray q k f b g c lt e = lt-ltb q k lt
fixed_holds TypeStruct q k f b g c lt e = lt-ltb q k lt
fixed_holds TypePointer q k f b g c lt e = lt-ltb q k lt
fixed_holds TypeFunction q k f b g c lt e = lt-ltb q k lt
fixed_holds ConstantTrue q k f b g c lt e = lt-ltb q k lt
fixed_holds ConstantFalse q k f b g c lt e = lt-ltb q k lt
fixed_holds Constant q k f b g c lt e = lt-ltb q k lt
fixed_holds ConstantNull q k f b g c lt e = lt-ltb q k lt
fixed_holds Function q k f b g c lt e = refl
fixed_holds Label q k f b g c lt e = refl
fixed_holds op q k f b g c lt e = absurd cc

variable_holds : (z : Bool) (q k f b : ℕ) → z ≡ nat_eq f 0 → holds (cond z (scope_of Function q f b) (scope_of FunctionParameter q f b)) k f b ≡ true
variable_holds true q k f b e = refl
variable_holds false q k f b e = eq-eqb f f refl

in_block : (q k b : ℕ) → q < k → (nat_eq b b && nat_lt q k) ≡ true
in_block q k b lt = ap (λ x. x && nat_lt q k) (eq-eqb b b refl) ∙ lt-ltb q k lt

-- in the same function and block all holds behind itself
inside_holds : (op : Op) (q k f b : ℕ) → q < k → holds (scope_of op q f b) k f b ≡ true
inside_holds TypeVoid q k f b lt = lt-ltb q k lt
inside_holds TypeBool q k f b lt = lt-ltb q k lt
inside_holds TypeInt q k f b lt = lt-ltb q k lt
inside_holds TypeVector q k f b lt = lt-ltb q k lt
inside_holds TypeArray q k f b lt = lt-ltb q k lt
inside_holds TypeRuntimeArray q k f b lt = lt-ltb q k lt
inside_holds TypeStruct q k f b lt = lt-ltb q k lt
inside_holds TypePointer q k f b lt = lt-ltb q k lt
inside_holds TypeFunction q k f b lt = lt-ltb q k lt
inside_holds ConstantTrue q k f b lt = lt-ltb q k lt
inside_holds ConstantFalse q k f b lt = lt-ltb q k lt
inside_holds Constant q k f b lt = lt-ltb q k lt
inside_holds ConstantNull q k f b lt = lt-ltb q k lt
inside_holds Function q k f b lt = refl
inside_holds Label q k f b lt = refl
inside_holds FunctionParameter q k f b lt = eq-eqb f f refl
inside_holds Variable q k f b lt = variable_holds (nat_eq f 0) q k f b refl
inside_holds op q k f b lt = in_block q k b lt

-- ---- the operands of an instruction

module _ (image : Image) (numbered : Numbered 1 image.instructions image.bound) where
  abbrev code : List Instruction
  code = image.instructions

  -- an id is defined by the instruction with this number
  pub record DefinedBy (x q : ℕ) (i : Instruction) : Type 0 where
    pub stands : slice_get code q ≡ Some i
    pub result : result_of i.op i.operands ≡ Some x

  pub placed : (x q : ℕ) (i : Instruction) → DefinedBy x q i → place_of code x 0 ≡ Some q
  placed x q i d = place_found code 1 image.bound q 0 x i numbered d.stands d.result ∙ ap (λ q. Some q) (omega arith)

  pub defined : (x q : ℕ) (i : Instruction) → DefinedBy x q i → definition_of code x ≡ Some i
  defined x q i d = definition_found code 1 image.bound q x i numbered d.stands d.result

  -- an id that may be named anywhere, and one that may be used at a place
  pub record Placed (x : ℕ) : Type 0 where
    pub place : ℕ
    pub there : place_of code x 0 ≡ Some place
    pub low : 0 < x
    pub below : x < image.bound

  pub record Usable (k x : ℕ) : Type 0 where
    pub is_placed : Placed x
    pub is_there : holds (definition_at code is_placed.place).scope k (function_of code (suc k)) (block_of code (suc k)) ≡ true

  pub mentioned : (x q : ℕ) (i : Instruction) → DefinedBy x q i → Placed x
  mentioned x q i d =
      let r = result_within code 1 image.bound q x i numbered d.stands d.result in
      record { place = q; there = placed x q i d; low = r.0; below = r.1 }

  op_is : (q : ℕ) (i : Instruction) → slice_get code q ≡ Some i → op_at code q ≡ Some i.op
  op_is q i at = ap (option_map (λ (i : Instruction). i.op)) at

  pub usable_fixed : (k x q : ℕ) (i : Instruction) → DefinedBy x q i → is_fixed i.op ≡ true → q < k → Usable k x
  unfolding mentioned
  usable_fixed k x q i d e lt =
      let f = function_of code (suc k) in
      let b = block_of code (suc k) in
      let g = function_of code (suc q) in
      let c = block_of code (suc q) in
      record {
        is_placed = mentioned x q i d;
        is_there = ap (λ o. holds (scope_at o q g c) k f b) (op_is q i d.stands) ∙ fixed_holds i.op q k f b g c lt e;
      }

  -- a variable outside of functions
  pub usable_outside : (k x q : ℕ) (os : List ℕ) → DefinedBy x q (record { op = Variable; operands = os }) → function_of code (suc q) ≡ 0 → Usable k x
  unfolding mentioned
  usable_outside k x q os d none =
      let f = function_of code (suc k) in
      let b = block_of code (suc k) in
      let c = block_of code (suc q) in
      record {
        is_placed = mentioned x q (record { op = Variable; operands = os }) d;
        is_there = ap (λ o. holds (scope_at o q (function_of code (suc q)) c) k f b) (op_is q (record { op = Variable; operands = os }) d.stands)
            ∙ ap (λ g. holds (scope_of Variable q g c) k f b) none;
      }

  -- in one function and block
  pub usable_inside : (k x q f b : ℕ) (i : Instruction) → DefinedBy x q i → q < k → function_of code (suc q) ≡ f → block_of code (suc q) ≡ b
      → function_of code (suc k) ≡ f → block_of code (suc k) ≡ b → Usable k x
  unfolding mentioned
  usable_inside k x q f b i d lt qf qb kf kb = record {
    is_placed = mentioned x q i d;
    is_there = ap (λ o. holds (scope_at o q (function_of code (suc q)) (block_of code (suc q))) k (function_of code (suc k)) (block_of code (suc k))) (op_is q i d.stands)
        ∙ ap (λ g. holds (scope_of i.op q g (block_of code (suc q))) k (function_of code (suc k)) (block_of code (suc k))) qf
        ∙ ap (λ c. holds (scope_of i.op q f c) k (function_of code (suc k)) (block_of code (suc k))) qb
        ∙ ap (λ g. holds (scope_of i.op q f b) k g (block_of code (suc k))) kf
        ∙ ap (λ c. holds (scope_of i.op q f b) k f c) kb ∙ inside_holds i.op q k f b lt;
  }

  -- what an operand of a role has to be; literals are words
  abbrev pub Fitting : Role → ℕ → Instruction → ℕ → Type 0
  Fitting Literal k i x = x < 2 ^ 32
  Fitting Result k i x = result_of i.op i.operands ≡ Some x
  Fitting Use k i x = Usable k x
  Fitting Mention k i x = Placed x

  -- the same for these operands, of which the first has this number
  abbrev pub Suiting : ℕ → Instruction → ℕ → List ℕ → Type 0
  Suiting k i j [] = Unit {0}
  Suiting k i j (x ∷ xs) = Fitting (role_of i.op (text_end i.op i.operands) j) k i x × Suiting k i (j + 1) xs

  suiting_at : (k : ℕ) (i : Instruction) (os : List ℕ) (j m : ℕ) → Suiting k i j os → m < length os → Fitting (role_of i.op (text_end i.op i.operands) (j + m)) k i (slice_index os m)
  suiting_at k i [] j m h lt = absurd (omega arith)
  suiting_at k i (x ∷ xs) j zero h lt = let z : j ≡ j + 0 = omega arith in subst (λ j. Fitting (role_of i.op (text_end i.op i.operands) j) k i x) z h.0
  suiting_at k i (x ∷ xs) j (suc m) h lt =
      let z : j + 1 + m ≡ j + suc m = omega arith in
      subst (λ j. Fitting (role_of i.op (text_end i.op i.operands) j) k i (slice_index xs m)) z (suiting_at k i xs (j + 1) m h.1 (omega arith))

  bounded : (x : ℕ) (b : Bool) → 0 < x → x < image.bound → b ≡ true → not ((nat_lt 0 x && nat_lt x image.bound) && b) ≡ false
  bounded x b low below e = ap (λ y. not ((y && nat_lt x image.bound) && b)) (lt-ltb 0 x low) ∙ ap (λ y. not (y && b)) (lt-ltb x image.bound below) ∙ ap not e

  fitting_right : (r : Role) (k : ℕ) (i : Instruction) (x : ℕ) → slice_get code k ≡ Some i → Fitting r k i x
      → is_wrong_id image.bound (definition code x) r x k (function_of code (suc k)) (block_of code (suc k)) ≡ false
  fitting_right Literal k i x at h = refl
  fitting_right Result k i x at h =
      let d : DefinedBy x k i = record { stands = at; result = h } in
      let m = mentioned x k i d in
      bounded x _ m.low m.below (ap (λ o. suits Result (option_map (definition_at code) o) k (function_of code (suc k)) (block_of code (suc k))) (placed x k i d) ∙ eq-eqb k k refl)
  fitting_right Use k i x at h =
      bounded x _ h.is_placed.low h.is_placed.below (ap (λ o. suits Use (option_map (definition_at code) o) k (function_of code (suc k)) (block_of code (suc k))) h.is_placed.there ∙ h.is_there)
  fitting_right Mention k i x at h =
      bounded x _ h.low h.below (ap (λ o. suits Mention (option_map (definition_at code) o) k (function_of code (suc k)) (block_of code (suc k))) h.there)

  -- no operand is a wrong id
  abbrev pub IdsRight : ℕ → Instruction → Type 0
  IdsRight k i = (j : ℕ) → j < length i.operands → is_wrong_in image i k j ≡ false

  pub ids_right : (k : ℕ) (i : Instruction) → slice_get code k ≡ Some i → Suiting k i 0 i.operands → IdsRight k i
  ids_right k i at h j lt =
      let z : 0 + j ≡ j = omega arith in
      let f = subst (λ j'. Fitting (role_in i j') k i (slice_index i.operands j)) z (suiting_at k i i.operands 0 j h lt) in
      fitting_right (role_in i j) k i (slice_index i.operands j) at f

  -- and each is a word, where the bound is one
  fitting_small : (r : Role) (k : ℕ) (i : Instruction) (x : ℕ) → image.bound < 2 ^ 32 → slice_get code k ≡ Some i → Fitting r k i x → x < 2 ^ 32
  fitting_small Literal k i x low at h = h
  fitting_small Result k i x low at h = omega (arith, (mentioned x k i (record { stands = at; result = h })).below)
  fitting_small Use k i x low at h = omega (arith, h.is_placed.below)
  fitting_small Mention k i x low at h = omega (arith, h.below)

  pub operands_small : (k : ℕ) (i : Instruction) (os : List ℕ) (j : ℕ) → image.bound < 2 ^ 32 → slice_get code k ≡ Some i → Suiting k i j os → AllByRecursion (λ w. w < 2 ^ 32) os
  operands_small k i [] j low at h = tt
  operands_small k i (x ∷ xs) j low at h =
      (fitting_small (role_of i.op (text_end i.op i.operands) j) k i x low at h.0, operands_small k i xs (j + 1) low at h.1)
