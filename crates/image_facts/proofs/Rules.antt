-- What each instruction of a valid image meets, and where ids are defined.
use Rattle.std.proofs.Common.{◌≡◌, ℕ, zero, suc, ◌+◌, ◌<◌, ◌≤◌, Bool, true, false, IsTrue, ◌&&◌, ◌||◌, not, List, [], ◌∷◌, length, take, drop, slice_get, slice_index, Option, Some, None, refl, sym, ap, subst, ◌∙◌, arith}
use Rattle.std.specs.Prelude.{slice_index_or}
use Rattle.std.specs.Option.{option_map}
use Rattle.std.proofs.lemmas.Bool.{eqb-true}
use Rattle.std.proofs.lemmas.Option.{slice_get_within}
use Rattle.spirv_words.specs.declared.opcodes.Op.{Op}
use Rattle.spirv_words.specs.declared.opcodes.Op.TheVariants.{Name, MemoryModel, EntryPoint, ExecutionMode, Capability, FunctionEnd, Store, Decorate, MemberDecorate, LoopMerge, SelectionMerge, Label, Branch, BranchConditional, Return, ReturnValue, Unreachable, TypeVoid, TypeBool, TypeInt, TypeVector, TypeArray, TypeRuntimeArray, TypeStruct, TypePointer, TypeFunction}
use Rattle.spirv_words.specs.declared.images.Instruction.{Instruction}
use Rattle.spirv_words.specs.declared.images.Image.{Image}
use Rattle.spirv_words.specs.declared.faults.ImageCode.TheVariants.{Order, Ids, Types}
use Rattle.spirv_words.specs.Layouts.{fits}
use Rattle.spirv_words.specs.Words.{IsInstruction, AreInstructions}
use Rattle.spirv_words.specs.Machine.{Standing, NoResult, First, Second, standing, result_at, result_of, place_of, if_some}
use Rattle.image_places.specs.declared.roles.Role.{Role}
use Rattle.image_places.specs.declared.roles.Role.TheVariants.{Result, Use}
use Rattle.image_places.specs.Roles.{first_roles, later_role, text_end, role_of}
use Rattle.image_places.specs.Places.{word_of, function_of, block_of}
use Rattle.image_rules.specs.Order.{out_of_order}
use Rattle.image_rules.specs.declared.table.Definition.{Definition}
use Rattle.image_rules.specs.Ids.{holds, definition_at, definition, suits, in_bound, is_wrong_id, role_in, is_wrong_in}
use Rattle.image_operands.specs.Marks.{clashes}
use Rattle.image_types.specs.declared.functions.Context.{Context}
use Rattle.image_types.specs.Rules.{rule_of}
use Rattle.image_types.specs.Checking as checking
use Rattle.image_types.specs.Checking.{context_at, meets, is_wrong, has_wrong_types}
use Rattle.call_graph.proofs.Walks.{second-true}
use Rattle.spirv_check.specs.Valid.{Valid}

-- ---- tests

pub some-same : {x y : ℕ} → Some x ≡ Some y → x ≡ y
some-same e = cc

pub not-true : (b : Bool) → (b ≡ true → ⊥) → b ≡ false
not-true true h = absurd (h refl)
not-true false h = refl

pub not-false : (b : Bool) → not b ≡ false → b ≡ true
not-false true h = refl
not-false false h = cc

pub or-first : (a b : Bool) → (a || b) ≡ false → a ≡ false
or-first true b h = cc
or-first false b h = refl

pub or-second : (a b : Bool) → (a || b) ≡ false → b ≡ false
or-second true b h = cc
or-second false b h = h

-- ---- layouts

instruction-at : (is : List Instruction) (k : ℕ) (i : Instruction) → AreInstructions is → slice_get is k ≡ Some i → IsInstruction i
instruction-at [] k i a h = cc
instruction-at (x ∷ is) zero i a h = let same : x ≡ i = cc in subst IsInstruction same a.0
instruction-at (x ∷ is) (suc k) i a h = instruction-at is k i a.1 h

-- ---- the results of instructions

-- an operand is the result's id
record IsResult (op : Op) (os : List ℕ) (r : ℕ) : Type 0 where
  place : ℕ
  within : place < length os
  is : slice_index os place ≡ r
  role : role_of op (text_end op os) place ≡ Result

first-role : (op : Op) → standing op ≡ First → slice_index_or (first_roles op) 0 (later_role op) ≡ Result
first-role TypeVoid e = refl
first-role TypeBool e = refl
first-role TypeInt e = refl
first-role TypeVector e = refl
first-role TypeArray e = refl
first-role TypeRuntimeArray e = refl
first-role TypeStruct e = refl
first-role TypePointer e = refl
first-role TypeFunction e = refl
first-role Label e = refl
first-role op e = cc

second-role : (op : Op) → standing op ≡ Second → slice_index_or (first_roles op) 1 (later_role op) ≡ Result
second-role TypeVoid e = cc
second-role TypeBool e = cc
second-role TypeInt e = cc
second-role TypeVector e = cc
second-role TypeArray e = cc
second-role TypeRuntimeArray e = cc
second-role TypeStruct e = cc
second-role TypePointer e = cc
second-role TypeFunction e = cc
second-role Label e = cc
second-role Name e = cc
second-role MemoryModel e = cc
second-role EntryPoint e = cc
second-role ExecutionMode e = cc
second-role Capability e = cc
second-role FunctionEnd e = cc
second-role Store e = cc
second-role Decorate e = cc
second-role MemberDecorate e = cc
second-role LoopMerge e = cc
second-role SelectionMerge e = cc
second-role Branch e = cc
second-role BranchConditional e = cc
second-role Return e = cc
second-role ReturnValue e = cc
second-role Unreachable e = cc
second-role op e = refl

result-by : (s : Standing) (op : Op) (os : List ℕ) (r : ℕ) → standing op ≡ s → result_at s os ≡ Some r → IsResult op os r
result-by NoResult op os r e h = cc
result-by First op [] r e h = cc
result-by First op (x ∷ os) r e h =
    let same : x ≡ r = cc in
    record { place = 0; within = omega arith; is = same; role = first-role op e }
result-by Second op [] r e h = cc
result-by Second op (x ∷ []) r e h = cc
result-by Second op (x ∷ y ∷ os) r e h =
    let same : y ≡ r = cc in
    record { place = 1; within = omega arith; is = same; role = second-role op e }

result-is : (op : Op) (os : List ℕ) (r : ℕ) → result_of op os ≡ Some r → IsResult op os r
result-is op os r h = result-by (standing op) op os r refl h

-- ---- ids

right-suits : (bound : ℕ) (o : Option Definition) (role : Role) (id here function block : ℕ)
    → is_wrong_id bound o role id here function block ≡ false → suits role o here function block ≡ true
right-suits bound o role id here function block h =
    second-true (in_bound role bound id) (suits role o here function block) (not-false (in_bound role bound id && suits role o here function block) h)

result-place : (code : List Instruction) (p : Option ℕ) (k function block : ℕ)
    → suits Result (option_map (definition_at code) p) k function block ≡ true → p ≡ Some k
result-place code None k function block h = cc
result-place code (Some p) k function block h = ap Some (eqb-true p k h)

-- an id is defined at a place, and the definition holds at an instruction
pub record IsDefined (code : List Instruction) (k x : ℕ) : Type 0 where
  pub place : ℕ
  pub there : place_of code x 0 ≡ Some place
  pub holds : holds (definition_at code place).scope k (function_of code (suc k)) (block_of code (suc k)) ≡ true

use-place : (code : List Instruction) (p : Option ℕ) (k x : ℕ) → p ≡ place_of code x 0
    → suits Use (option_map (definition_at code) p) k (function_of code (suc k)) (block_of code (suc k)) ≡ true → IsDefined code k x
use-place code None k x e h = cc
use-place code (Some p) k x e h = record { place = p; there = sym e; holds = h }

wrong-here : (code : List Instruction) (k : ℕ) (i : Instruction) → slice_get code k ≡ Some i → has_wrong_types code k ≡ is_wrong code k i
unfolding has_wrong_types
wrong-here code k i h = ap (λ (o : Option Instruction). if_some o false (is_wrong code k)) h

right-meets : (code : List Instruction) (c : Context) (k : ℕ) (i : Instruction) (behind : List Instruction)
    → checking.fits code c k i behind ≡ true → meets (rule_of i.op) code c k i behind ≡ true
unfolding checking.fits
right-meets code c k i behind h = h

-- ---- valid images

module _ (image : Image) (v : Valid image) where
  pub right-layout : (k : ℕ) (i : Instruction) → slice_get image.instructions k ≡ Some i → IsTrue (fits i.op i.operands)
  right-layout k i h = (instruction-at image.instructions k i v.spelled.instructions h).layout

  pub right-order : (k : ℕ) → k ≤ length image.instructions → out_of_order image.instructions k ≡ false
  right-order k h =
      not-true (out_of_order image.instructions k)
      (λ t. v.keeps Order (word_of image.instructions k) (record { number = k; within = h; place_is = refl; is_wrong = t }))

  type-rules : (k : ℕ) (i : Instruction) → slice_get image.instructions k ≡ Some i → is_wrong image.instructions k i ≡ false
  type-rules k i h =
      let l : k < length image.instructions = slice_get_within image.instructions k i h in
      sym (wrong-here image.instructions k i h) ∙ not-true (has_wrong_types image.instructions k)
      (λ t. v.keeps Types (word_of image.instructions k) (record { number = k; within = omega arith; place_is = refl; is_wrong = t }))

  pub right-types : (k : ℕ) (i : Instruction) → slice_get image.instructions k ≡ Some i
      → checking.fits image.instructions (context_at image.instructions k) k i (drop (suc k) image.instructions) ≡ true
  right-types k i h =
      not-false _ (or-second (clashes image.instructions (take k image.instructions) k i)
      (not (checking.fits image.instructions (context_at image.instructions k) k i (drop (suc k) image.instructions))) (type-rules k i h))

  pub right-rule : (k : ℕ) (i : Instruction) → slice_get image.instructions k ≡ Some i
      → meets (rule_of i.op) image.instructions (context_at image.instructions k) k i (drop (suc k) image.instructions) ≡ true
  right-rule k i h =
      right-meets image.instructions (context_at image.instructions k) k i (drop (suc k) image.instructions) (right-types k i h)

  pub no-clash : (k : ℕ) (i : Instruction) → slice_get image.instructions k ≡ Some i
      → clashes image.instructions (take k image.instructions) k i ≡ false
  no-clash k i h =
      or-first (clashes image.instructions (take k image.instructions) k i)
      (not (checking.fits image.instructions (context_at image.instructions k) k i (drop (suc k) image.instructions))) (type-rules k i h)

  pub right-id : (k : ℕ) (i : Instruction) (j : ℕ) → slice_get image.instructions k ≡ Some i → j < length i.operands → is_wrong_in image i k j ≡ false
  right-id k i j h l =
      not-true (is_wrong_in image i k j) (λ t.
      v.keeps Ids (word_of image.instructions k + suc j) (record {
        number = k;
        operand = j;
        instruction = i;
        stands = h;
        within = l;
        place_is = refl;
        is_wrong = t;
      }))

  right-role : (k : ℕ) (i : Instruction) (j : ℕ) (role : Role) → slice_get image.instructions k ≡ Some i → j < length i.operands → role_in i j ≡ role
      → suits role (definition image.instructions (slice_index i.operands j)) k (function_of image.instructions (suc k)) (block_of image.instructions (suc k)) ≡ true
  right-role k i j role h l e =
      subst (λ (q : Role). suits q (definition image.instructions (slice_index i.operands j)) k (function_of image.instructions (suc k)) (block_of image.instructions (suc k)) ≡ true) e
      (right-suits image.bound (definition image.instructions (slice_index i.operands j)) (role_in i j) (slice_index i.operands j) k (function_of image.instructions (suc k)) (block_of image.instructions (suc k)) (right-id k i j h l))

  pub defined-once : (k : ℕ) (i : Instruction) (r : ℕ) → slice_get image.instructions k ≡ Some i → result_of i.op i.operands ≡ Some r
      → place_of image.instructions r 0 ≡ Some k
  defined-once k i r h e =
      let a = result-is i.op i.operands r e in
      subst (λ (x : ℕ). place_of image.instructions x 0 ≡ Some k) a.is
      (result-place image.instructions (place_of image.instructions (slice_index i.operands a.place) 0) k _ _ (right-role k i a.place Result h a.within a.role))

  -- an operand that is used is defined
  pub used-defined : (k : ℕ) (i : Instruction) (j : ℕ) → slice_get image.instructions k ≡ Some i → j < length i.operands → role_in i j ≡ Use
      → IsDefined image.instructions k (slice_index i.operands j)
  used-defined k i j h l e =
      use-place image.instructions (place_of image.instructions (slice_index i.operands j) 0) k (slice_index i.operands j) refl (right-role k i j Use h l e)
