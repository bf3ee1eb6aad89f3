-- The instruction that defines an id.
use Rattle.std.proofs.Common.{◌≡◌, ℕ, zero, suc, ◌+◌, Bool, true, false, cond, List, [], ◌∷◌, drop, slice_get, Option, Some, None, refl, ap, subst, ◌∙◌, arith}
use Rattle.std.proofs.lemmas.Bool.{eqb-true}
use Rattle.spirv_words.specs.declared.images.Instruction.{Instruction}
use Rattle.spirv_words.specs.Machine.{is_some_number, result_of, place_of, definition_of}

-- the instruction at a place defines an id
pub record IsMade (code : List Instruction) (id place : ℕ) : Type 0 where
  pub instruction : Instruction
  pub stands : slice_get code place ≡ Some instruction
  pub result : result_of instruction.op instruction.operands ≡ Some id
  pub defines : definition_of code id ≡ Some instruction

some-number : (o : Option ℕ) (id : ℕ) → is_some_number o id ≡ true → o ≡ Some id
some-number None id e = cc
some-number (Some m) id e = ap Some (eqb-true m id e)

record Found (code : List Instruction) (id from p : ℕ) : Type 0 where
  steps : ℕ
  far : p ≡ from + steps
  made : IsMade code id steps

found-first : (i : Instruction) (code : List Instruction) (id from p : ℕ) → is_some_number (result_of i.op i.operands) id ≡ true → Some from ≡ Some p
    → Found (i ∷ code) id from p
found-first i code id from p e h =
    let same : from ≡ p = cc in
    record {
      steps = 0;
      far = omega arith;
      made = record {
        instruction = i;
        stands = refl;
        result = some-number (result_of i.op i.operands) id e;
        defines = ap (λ (b : Bool). cond b (Some i) (definition_of code id)) e;
      };
    }

found-later : (i : Instruction) (code : List Instruction) (id from p : ℕ) → is_some_number (result_of i.op i.operands) id ≡ false
    → Found code id (from + 1) p → Found (i ∷ code) id from p
found-later i code id from p e f = record {
  steps = suc f.steps;
  far = omega (arith, f.far);
  made = record {
    instruction = f.made.instruction;
    stands = f.made.stands;
    result = f.made.result;
    defines = ap (λ (b : Bool). cond b (Some i) (definition_of code id)) e ∙ f.made.defines;
  };
}

found-by : (i : Instruction) (code : List Instruction) (id from p : ℕ) (b : Bool) → is_some_number (result_of i.op i.operands) id ≡ b
    → (place_of code id (from + 1) ≡ Some p → Found code id (from + 1) p) → cond b (Some from) (place_of code id (from + 1)) ≡ Some p
    → Found (i ∷ code) id from p
found-by i code id from p true e go h = found-first i code id from p e h
found-by i code id from p false e go h = found-later i code id from p e (go h)

found : (code : List Instruction) (id from p : ℕ) → place_of code id from ≡ Some p → Found code id from p
found [] id from p h = cc
found (i ∷ code) id from p h =
    found-by i code id from p (is_some_number (result_of i.op i.operands) id) refl (λ e. found code id (from + 1) p e) h

pub made : (code : List Instruction) (id p : ℕ) → place_of code id 0 ≡ Some p → IsMade code id p
made code id p h =
    let f = found code id 0 p h in
    let same : f.steps ≡ p = omega (arith, f.far) in
    subst (IsMade code id) same f.made

placed : (code : List Instruction) (id from : ℕ) (x : Instruction) → definition_of code id ≡ Some x → (p : ℕ) × (place_of code id from ≡ Some p)
placed [] id from x h = cc
placed (i ∷ code) id from x h =
    elim (is_some_number (result_of i.op i.operands) id) as (λ b. cond b (Some i) (definition_of code id) ≡ Some x → (p : ℕ) × (cond b (Some from) (place_of code id (from + 1)) ≡ Some p)) [
      | true ↦ λ e. (from, refl)
      | false ↦ λ e. placed code id (from + 1) x e
    ] h

-- an id that is defined: where, and by what
pub record IsPlaced (code : List Instruction) (id : ℕ) (x : Instruction) : Type 0 where
  pub place : ℕ
  pub there : place_of code id 0 ≡ Some place
  pub stands : slice_get code place ≡ Some x
  pub result : result_of x.op x.operands ≡ Some id

pub same-instruction : {x y : Instruction} {o : Option Instruction} → o ≡ Some x → o ≡ Some y → x ≡ y
same-instruction e f = cc

pub place-of : (code : List Instruction) (id : ℕ) (x : Instruction) → definition_of code id ≡ Some x → IsPlaced code id x
place-of code id x h =
    let p = placed code id 0 x h in
    let m = made code id p.0 p.1 in
    let same : m.instruction ≡ x = same-instruction m.defines h in
    record {
      place = p.0;
      there = p.1;
      stands = m.stands ∙ ap Some same;
      result = subst (λ (y : Instruction). result_of y.op y.operands ≡ Some id) same m.result;
    }

-- ---- lists

pub drop-at : (code : List Instruction) (k : ℕ) (i : Instruction) → slice_get code k ≡ Some i → drop k code ≡ i ∷ drop (suc k) code
drop-at [] k i h = cc
drop-at (x ∷ code) zero i h = let same : x ≡ i = cc in ap (λ (y : Instruction). y ∷ code) same
drop-at (x ∷ code) (suc k) i h = drop-at code k i h

pub behind-at : (code : List Instruction) (k j : ℕ) → slice_get (drop k code) j ≡ slice_get code (k + j)
behind-at [] zero j = refl
behind-at [] (suc k) j = refl
behind-at (x ∷ code) zero j = let e : j ≡ 0 + j = omega arith in ap (slice_get (x ∷ code)) e
behind-at (x ∷ code) (suc k) j = let e : suc (k + j) ≡ suc k + j = omega arith in behind-at code k j ∙ ap (slice_get (x ∷ code)) e
