-- The instruction at the place of a definition.
use Rattle.std.proofs.Common.{◌≡◌, ℕ, suc, ◌+◌, ◌-◌, ◌≤◌, List, [], ◌∷◌, true, false, cond, Some, None, slice_get, refl, sym, ◌∙◌, ap, arith, add-one}
use Rattle.spirv_words.specs.declared.images.Instruction.{Instruction}
use Rattle.spirv_words.specs.Machine.{result_of, is_some_number, definition_of, place_of}

-- an instruction behind the first
later : (i : Instruction) (code : List Instruction) (p from : ℕ) → suc from ≤ p → slice_get (i ∷ code) (p - from) ≡ slice_get code (p - suc from)
later i code p from h = let e : p - from ≡ suc (p - suc from) = omega arith in ap (slice_get (i ∷ code)) e

here : (i : Instruction) (code : List Instruction) (from p : ℕ) → Some from ≡ Some p → (from ≤ p) × (slice_get (i ∷ code) (p - from) ≡ Some i)
here i code from p e =
    let f : from ≡ p = cc in
    let z : p - from ≡ 0 = omega arith in
    (omega arith, ap (slice_get (i ∷ code)) z)

pub definition-at : (code : List Instruction) (id from p : ℕ) → place_of code id from ≡ Some p → (from ≤ p) × (slice_get code (p - from) ≡ definition_of code id)
definition-at [] id from p h = cc
definition-at (i ∷ code) id from p h =
    elim (is_some_number (result_of i.op i.operands) id) as (λ b. cond b (Some from) (place_of code id (from + 1)) ≡ Some p → (from ≤ p) × (slice_get (i ∷ code) (p - from) ≡ cond b (Some i) (definition_of code id))) [
      | true ↦ λ e. here i code from p e
      | false ↦ λ e. let r = definition-at code id (from + 1) p e in (omega (arith, r.0), later i code p from (omega (arith, r.0)) ∙ ap (λ n. slice_get code (p - n)) (sym (add-one from)) ∙ r.1)
    ] h

pub definition-found : (code : List Instruction) (id p : ℕ) → place_of code id 0 ≡ Some p → slice_get code p ≡ definition_of code id
definition-found code id p h = let e : p ≡ p - 0 = omega arith in ap (slice_get code) e ∙ (definition-at code id 0 p h).1

pub definition-none : (code : List Instruction) (id from : ℕ) → place_of code id from ≡ None → definition_of code id ≡ None
definition-none [] id from h = refl
definition-none (i ∷ code) id from h =
    elim (is_some_number (result_of i.op i.operands) id) as (λ b. cond b (Some from) (place_of code id (from + 1)) ≡ None → cond b (Some i) (definition_of code id) ≡ None) [
      | true ↦ λ e. cc
      | false ↦ λ e. definition-none code id (from + 1) e
    ] h
