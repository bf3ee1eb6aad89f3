-- What an instruction uses is defined before it.
use Rattle.std.proofs.Common.{◌≡◌, ℕ, suc, ◌<◌, true, false, List, [], ◌∷◌, slice_get, slice_index, Option, Some, None, refl, sym, ap, ◌∙◌, arith}
use Rattle.std.specs.Option.{option_map}
use Rattle.std.proofs.lemmas.Bool.{eqb-true, and_parts, not-false}
use Rattle.std.proofs.lemmas.Option.{slice_get_within, get_or_from_slice_get}
use Rattle.spirv_words.specs.declared.opcodes.Op.{Op}
use Rattle.spirv_words.specs.declared.opcodes.Op.TheVariants.{Name, MemoryModel, EntryPoint, ExecutionMode, Capability, TypeVoid, TypeBool, TypeInt, TypeVector, TypeArray, TypeRuntimeArray, TypeStruct, TypePointer, TypeFunction, FunctionEnd, Store, Decorate, MemberDecorate, LoopMerge, SelectionMerge, Label, Branch, BranchConditional, Return, ReturnValue, Unreachable}
use Rattle.spirv_words.specs.declared.images.Instruction.{Instruction}
use Rattle.spirv_words.specs.declared.images.Image.{Image}
use Rattle.spirv_words.specs.Machine.{Standing, NoResult, First, Second, standing, result_at, first_of, second_of, result_of, place_of}
use Rattle.image_places.specs.declared.roles.Role.{Role}
use Rattle.image_places.specs.declared.roles.Role.TheVariants.{Result, Use}
use Rattle.image_places.specs.Roles.{text_end, role_of}
use Rattle.image_places.specs.Places.{function_of, block_of}
use Rattle.image_rules.specs.declared.table.Definition.{Definition}
use Rattle.image_rules.specs.Ids.{holds, definition_at, definition, suits, is_wrong_id, role_in}
use Rattle.spirv_check.specs.Valid.{Valid}
use Rattle.image_scopes.specs.Scopes.{IsSeen}
use Rattle.image_scopes.proofs.Kept.{ids_right}

-- ---- an id that is not wrong

right_id : (bound : ℕ) (d : Option Definition) (r : Role) (x k f b : ℕ) → is_wrong_id bound d r x k f b ≡ false → suits r d k f b ≡ true
right_id bound d r x k f b e = (and_parts _ _ (not-false _ e)).1

use_holds : (code : List Instruction) (o : Option ℕ) (k f b : ℕ) → suits Use (option_map (definition_at code) o) k f b ≡ true
    → (p : ℕ) × (o ≡ Some p) × (holds (definition_at code p).scope k f b ≡ true)
use_holds code None k f b e = cc
use_holds code (Some p) k f b e = (p, refl, e)

result_stands : (code : List Instruction) (o : Option ℕ) (k f b : ℕ) → suits Result (option_map (definition_at code) o) k f b ≡ true → o ≡ Some k
result_stands code None k f b e = cc
result_stands code (Some p) k f b e = ap (λ (n : ℕ). Some n) (eqb-true p k e)

-- ---- where a result's id is

data Place (op : Op) (end : ℕ) : Type 0 where
  no_place : standing op ≡ NoResult → Place op end
  first_place : standing op ≡ First → role_of op end 0 ≡ Result → Place op end
  second_place : standing op ≡ Second → role_of op end 1 ≡ Result → Place op end

place : (op : Op) (end : ℕ) → Place op end
place TypeVoid end = first_place refl refl
place TypeBool end = first_place refl refl
place TypeInt end = first_place refl refl
place TypeVector end = first_place refl refl
place TypeArray end = first_place refl refl
place TypeRuntimeArray end = first_place refl refl
place TypeStruct end = first_place refl refl
place TypePointer end = first_place refl refl
place TypeFunction end = first_place refl refl
place Label end = first_place refl refl
place Name end = no_place refl
place MemoryModel end = no_place refl
place EntryPoint end = no_place refl
place ExecutionMode end = no_place refl
place Capability end = no_place refl
place FunctionEnd end = no_place refl
place Store end = no_place refl
place Decorate end = no_place refl
place MemberDecorate end = no_place refl
place LoopMerge end = no_place refl
place SelectionMerge end = no_place refl
place Branch end = no_place refl
place BranchConditional end = no_place refl
place Return end = no_place refl
place ReturnValue end = no_place refl
place Unreachable end = no_place refl
place op end = second_place refl refl

first_get : (os : List ℕ) (x : ℕ) → first_of os ≡ Some x → slice_get os 0 ≡ Some x
first_get [] x e = cc
first_get (y ∷ ys) x e = e

second_get : (os : List ℕ) (x : ℕ) → second_of os ≡ Some x → slice_get os 1 ≡ Some x
second_get [] x e = cc
second_get (y ∷ ys) x e = first_get ys x e

pub record ResultOperand (op : Op) (os : List ℕ) (end x : ℕ) : Type 0 where
  pub operand : ℕ
  pub is : slice_get os operand ≡ Some x
  pub role : role_of op end operand ≡ Result

pub result_operand : (op : Op) (os : List ℕ) (end x : ℕ) → result_of op os ≡ Some x → ResultOperand op os end x
result_operand op os end x e = elim (place op end) [
  | no_place s ↦ (let no : None ≡ Some x = sym (ap (λ (t : Standing). result_at t os) s) ∙ e in cc)
  | first_place s r ↦ record { operand = 0; is = first_get os x (sym (ap (λ (t : Standing). result_at t os) s) ∙ e); role = r }
  | second_place s r ↦ record { operand = 1; is = second_get os x (sym (ap (λ (t : Standing). result_at t os) s) ∙ e); role = r }
]

module _ (image : Image) (v : Valid image) (k : ℕ) (i : Instruction) (stands : slice_get image.instructions k ≡ Some i) where
  suits_here : (j x : ℕ) (r : Role) → slice_get i.operands j ≡ Some x → role_in i j ≡ r
      → suits r (definition image.instructions x) k (function_of image.instructions (suc k)) (block_of image.instructions (suc k)) ≡ true
  suits_here j x r at role =
      let is : List Instruction = image.instructions in
      let f : ℕ = function_of is (suc k) in
      let b : ℕ = block_of is (suc k) in
      let same : slice_index i.operands j ≡ x = get_or_from_slice_get i.operands j x 0 at in
      let right = ids_right image v k i stands j (slice_get_within i.operands j x at) in
      right_id image.bound (definition is x) r x k f b
      (sym (ap (λ (y : ℕ). is_wrong_id image.bound (definition is y) (role_in i j) y k f b) same
      ∙ ap (λ (t : Role). is_wrong_id image.bound (definition is x) t x k f b) role) ∙ right)

  -- what is used has a definition, which holds here
  pub used_is_defined : (j x : ℕ) → slice_get i.operands j ≡ Some x → role_in i j ≡ Use
      → (p : ℕ) × (place_of image.instructions x 0 ≡ Some p)
      × (holds (definition_at image.instructions p).scope k (function_of image.instructions (suc k)) (block_of image.instructions (suc k)) ≡ true)
  used_is_defined j x at role =
      use_holds image.instructions (place_of image.instructions x 0) k (function_of image.instructions (suc k)) (block_of image.instructions (suc k))
      (suits_here j x Use at role)

  -- a result is defined here, and nowhere before
  pub result_is_here : (x : ℕ) → result_of i.op i.operands ≡ Some x → place_of image.instructions x 0 ≡ Some k
  result_is_here x e =
      let r : ResultOperand i.op i.operands (text_end i.op i.operands) x = result_operand i.op i.operands (text_end i.op i.operands) x e in
      result_stands image.instructions (place_of image.instructions x 0) k (function_of image.instructions (suc k)) (block_of image.instructions (suc k))
      (suits_here r.operand x Result r.is r.role)

  pub result_is_new : (x : ℕ) → result_of i.op i.operands ≡ Some x → IsSeen image.instructions k x → ⊥
  result_is_new x e s =
      let less : s.place < k = s.before in
      let there : place_of image.instructions x 0 ≡ Some s.place = s.there in
      let here : place_of image.instructions x 0 ≡ Some k = result_is_here x e in
      let same : s.place ≡ k = cc in
      omega arith
