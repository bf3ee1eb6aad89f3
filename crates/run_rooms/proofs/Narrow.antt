-- Types whose words 32 bits tell.
use Rattle.std.proofs.Common.{◌≡◌, ◌⊎◌, ℕ, suc, ◌+◌, ◌^◌, ◌<◌, ◌≤◌, true, false, cond, nat_eq, List, [], ◌∷◌, length, get_or, Option, Some, None, slice_get, refl, sym, ap, ◌∙◌, arith, inl, inr, subst}
use Rattle.std.proofs.Math.Logic.{⊎_elim}
use Rattle.std.proofs.lemmas.Bool.{eqb-true, cases_lt}
use Rattle.std.proofs.lemmas.Option.{slice_get_within, slice_get_read}
use Rattle.spirv_words.specs.declared.images.Instruction.{Instruction}
use Rattle.spirv_words.specs.Machine.{Shape, Globals, Meaning, IsType, IsValue, Unknown, add, meaning_of, result_of, is_function, declared}
use Rattle.spirv_words.specs.Runs.{undeclared}
use Rattle.flat_values.specs.Flat.{width}
use Rattle.image_facts.specs.Operands.{shape}
use Rattle.run_rooms.specs.Needs.{IsNarrow}

-- ---- types are declared

by-add : (o : Option ℕ) (m : Meaning) (g : Globals) (t : ℕ) (s : Shape) → (add o m g).shapes t ≡ Some s → (g.shapes t ≡ Some s) ⊎ (o ≡ Some t)
by-add None m g t s h = inl h
by-add (Some r) (IsType x) g t s h = elim (nat_eq t r) as (λ b. nat_eq t r ≡ b → cond b (Some x) (g.shapes t) ≡ Some s → (g.shapes t ≡ Some s) ⊎ (Some r ≡ Some t)) [
  | true ↦ λ e h. inr (ap Some (sym (eqb-true t r e)))
  | false ↦ λ e h. inl h
] refl h
by-add (Some r) (IsValue v) g t s h = inl h
by-add (Some r) Unknown g t s h = inl h

-- an instruction with this result
record IsResult (is : List Instruction) (t : ℕ) : Type 0 where
  number : ℕ
  instruction : Instruction
  stands : slice_get is number ≡ Some instruction
  result : result_of instruction.op instruction.operands ≡ Some t

by-declared : (code is : List Instruction) (g : Globals) (t : ℕ) (s : Shape) → (declared code is g).shapes t ≡ Some s → (g.shapes t ≡ Some s) ⊎ IsResult is t
by-declared code [] g t s h = inl h
by-declared code (i ∷ is) g t s h =
    elim (is_function i.op) as (λ b. (cond b g (declared code is (add (result_of i.op i.operands) (meaning_of code g i.op i.operands) g))).shapes t ≡ Some s
    → (g.shapes t ≡ Some s) ⊎ IsResult (i ∷ is) t) [
      | true ↦ λ h. inl h
      | false ↦ λ h. ⊎_elim
          (λ e. ⊎_elim inl (λ r. inr (record { number = 0; instruction = i; stands = refl; result = r }))
          (by-add (result_of i.op i.operands) (meaning_of code g i.op i.operands) g t s e))
          (λ r. inr (record { number = suc r.number; instruction = r.instruction; stands = r.stands; result = r.result }))
          (by-declared code is (add (result_of i.op i.operands) (meaning_of code g i.op i.operands) g) t s h)
    ] h

-- ---- words

-- these instructions declare no wide type
abbrev pub NoneWide : List Instruction → ℕ → Type 0
NoneWide code k = (j : ℕ) (i : Instruction) (t : ℕ) (s : Shape) → j < k → slice_get code j ≡ Some i → result_of i.op i.operands ≡ Some t → shape code t ≡ Some s
    → width s < 2 ^ 32

pub all-narrow : (code : List Instruction) (k : ℕ) → length code ≤ k → NoneWide code k → IsNarrow code
all-narrow code k l h t s e = ⊎_elim
    (λ n. absurd-of n)
    (λ r. h r.number r.instruction t s (omega (arith, slice_get_within code r.number r.instruction r.stands)) r.stands r.result e)
    (by-declared code code undeclared t s e)
  where
    absurd-of : None ≡ Some s → width s < 2 ^ 32
    absurd-of n = cc

pub none-more : (code items : List Instruction) (k : ℕ) (i : Instruction) → items ≡ code → k < length code → i ≡ get_or items k i
    → ((t : ℕ) (s : Shape) → result_of i.op i.operands ≡ Some t → shape code t ≡ Some s → width s < 2 ^ 32) → NoneWide code k → NoneWide code (k + 1)
none-more code items k i e lt it one h = λ j x t s l at r w. ⊎_elim
    (λ below. h j x t s below at r w)
    (λ above.
    let here : slice_get code k ≡ Some i = slice_get_read code (length code) k i refl lt (it ∙ ap (λ (l : List Instruction). get_or l k i) e) in
    let number : j ≡ k = omega arith in
    let both : Some x ≡ Some i = sym at ∙ ap (slice_get code) number ∙ here in
    let same : x ≡ i = cc in
    one t s (subst (λ (y : Instruction). result_of y.op y.operands ≡ Some t) same r) w)
    (cases_lt j k)
