-- The instruction that defines a value.
use Rattle.std.proofs.Common.{◌≡◌, ℕ, zero, suc, ◌+◌, ◌<◌, ◌≤◌, true, false, cond, List, [], ◌∷◌, length, Option, Some, None, slice_get, refl, sym, ap, ◌∙◌, arith}
use Rattle.std.proofs.lemmas.Bool.{eqb-true}
use Rattle.std.proofs.lemmas.Option.{slice_get_within}
use Rattle.spirv_words.specs.declared.opcodes.Op.{Op}
use Rattle.spirv_words.specs.declared.opcodes.Op.TheVariants.{Function, FunctionEnd}
use Rattle.spirv_words.specs.declared.images.Instruction.{Instruction}
use Rattle.spirv_words.specs.Machine.{result_of, is_some_number, definition_of, place_of}
use Rattle.image_lookup.specs.Sorts.{sort_of, is_value_sort}
use Rattle.image_lookup.specs.Lookups.{sort, operands, is_value, sort_in, operands_in}
use Rattle.image_lookup.proofs.Found.{definition-found, definition-none}
use Rattle.image_places.specs.Places.{function_of, op_at, under_function}

pub record IsDefined (code : List Instruction) (x p : ℕ) (i : Instruction) : Type 0 where
  pub defines : definition_of code x ≡ Some i
  pub result : result_of i.op i.operands ≡ Some x

is-number : (o : Option ℕ) (x : ℕ) → is_some_number o x ≡ true → o ≡ Some x
is-number None x h = cc
is-number (Some y) x h = ap Some (eqb-true y x h)

placed : (code : List Instruction) (x from p : ℕ) → place_of code x from ≡ Some p → (i : Instruction) × IsDefined code x p i
placed [] x from p h = cc
placed (i ∷ code) x from p h =
    elim (is_some_number (result_of i.op i.operands) x) as (λ b. is_some_number (result_of i.op i.operands) x ≡ b → cond b (Some from) (place_of code x (from + 1)) ≡ Some p
    → (j : Instruction) × IsDefined (i ∷ code) x p j) [
      | true ↦ λ e h. (i, record { defines = ap (λ b. cond b (Some i) (definition_of code x)) e; result = is-number (result_of i.op i.operands) x e })
      | false ↦ λ e h. let r = placed code x (from + 1) p h in
          (r.0, record { defines = ap (λ b. cond b (Some i) (definition_of code x)) e ∙ r.1.defines; result = r.1.result })
    ] refl h

-- a value, its place, and the instruction there
pub record IsPlaced (code : List Instruction) (x : ℕ) : Type 0 where
  pub place : ℕ
  pub there : place_of code x 0 ≡ Some place
  pub instruction : Instruction
  pub stands : slice_get code place ≡ Some instruction
  pub result : result_of instruction.op instruction.operands ≡ Some x
  pub sort_is : sort code x ≡ sort_of instruction.op
  pub operands_are : operands code x ≡ instruction.operands

pub is-placed : (code : List Instruction) (x p : ℕ) → place_of code x 0 ≡ Some p → IsPlaced code x
unfolding sort operands
is-placed code x p h =
    let d = placed code x 0 p h in
    record {
      place = p;
      there = h;
      instruction = d.0;
      stands = definition-found code x p h ∙ d.1.defines;
      result = d.1.result;
      sort_is = ap sort_in d.1.defines;
      operands_are = ap operands_in d.1.defines;
    }

no-value : (code : List Instruction) (x : ℕ) → definition_of code x ≡ None → is_value code x ≡ false
unfolding sort
no-value code x h = ap (λ o. is_value_sort (sort_in o)) h

pub value-placed : (code : List Instruction) (x : ℕ) → is_value code x ≡ true → IsPlaced code x
value-placed code x v = by (place_of code x 0) refl
  where
    by : (o : Option ℕ) → place_of code x 0 ≡ o → IsPlaced code x
    by None e = let n = no-value code x (definition-none code x 0 e) in absurd cc
    by (Some p) e = is-placed code x p e

-- two ids that have one place are one
pub placed-apart : (code : List Instruction) (x y : ℕ) (a : IsPlaced code x) (b : IsPlaced code y) → a.place ≡ b.place → x ≡ y
placed-apart code x y a b e =
    let one : Some a.instruction ≡ Some b.instruction = sym a.stands ∙ ap (slice_get code) e ∙ b.stands in
    let same : a.instruction ≡ b.instruction = cc in
    let r : Some x ≡ Some y = sym a.result ∙ ap (λ (i : Instruction). result_of i.op i.operands) same ∙ b.result in
    cc

-- the number of a function is not above that of what it contains
under-within : (o : Option Op) (k f : ℕ) → f ≤ k → under_function o (suc k) f ≤ suc k
under-within None k f h = omega arith
under-within (Some Function) k f h = omega arith
under-within (Some FunctionEnd) k f h = omega arith
under-within (Some op) k f h = omega arith

pub function_of-within : (code : List Instruction) (k : ℕ) → function_of code k ≤ k
function_of-within code zero = omega arith
function_of-within code (suc k) = under-within (op_at code k) k (function_of code k) (function_of-within code k)

pub place-within : (code : List Instruction) (x p : ℕ) → place_of code x 0 ≡ Some p → p < length code
unfolding is-placed
place-within code x p h = let a = is-placed code x p h in slice_get_within code p a.instruction a.stands

-- two ids with one place are one
pub one-placed : (code : List Instruction) (x y p : ℕ) → place_of code x 0 ≡ Some p → place_of code y 0 ≡ Some p → x ≡ y
unfolding is-placed
one-placed code x y p h g = placed-apart code x y (is-placed code x p h) (is-placed code y p g) refl
