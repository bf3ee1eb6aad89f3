-- Whether an instruction stands in a function, as the rules on types see it.
use Rattle.std.proofs.Common.{◌≡◌, ℕ, zero, suc, ◌<◌, ◌≤◌, false, not, nat_eq, List, length, slice_get, Option, Some, None, refl, sym, ap, ◌∙◌, add-one, arith}
use Rattle.std.proofs.lemmas.Bool.{ne_eqb}
use Rattle.std.proofs.lemmas.Option.{get_or_from_slice_get}
use Rattle.spirv_words.specs.declared.opcodes.Op.{Op}
use Rattle.spirv_words.specs.declared.opcodes.Op.TheVariants.{Function, FunctionEnd}
use Rattle.spirv_words.specs.declared.images.Instruction.{Instruction}
use Rattle.image_places.specs.Places.{under_function, function_of}
use Rattle.image_types.specs.declared.functions.Context.{Context}
use Rattle.image_types.specs.Functions.{after_op}
use Rattle.image_types.specs.Checking.{context_at}
use Rattle.image_types.proofs.Walk.{context-more, context-first}
use Rattle.image_facts.proofs.Outside.{op-there, absurd-none}

not-zero : (k : ℕ) → nat_eq (suc k) 0 ≡ false
not-zero k = ne_eqb (suc k) 0 (λ e. never k e)
  where
    never : (k : ℕ) → suc k ≡ 0 → ⊥
    never k e = omega arith

step : (op : Op) (os : List ℕ) (c : Context) (k f : ℕ) → c.inside ≡ not (nat_eq f 0)
    → (after_op op os c).inside ≡ not (nat_eq (under_function (Some op) (suc k) f) 0)
step Function os c k f e = ap not (sym (not-zero k))
step FunctionEnd os c k f e = refl
step op os c k f e = e

there : (code : List Instruction) (k : ℕ) → k < length code → (i : Instruction) × (slice_get code k ≡ Some i)
there code k l = either (slice_get code k) refl
  where
    either : (o : Option Instruction) → slice_get code k ≡ o → (i : Instruction) × (slice_get code k ≡ Some i)
    either None e = absurd (absurd-none code k l e)
    either (Some i) e = (i, e)

pub inside-is : (code : List Instruction) (k : ℕ) → k ≤ length code → (context_at code k).inside ≡ not (nat_eq (function_of code k) 0)
inside-is code zero l = ap (λ (c : Context). c.inside) (sym (context-first code))
inside-is code (suc k) l =
    let m : k < length code = omega arith in
    let i = there code k m in
    let more = context-more code k i.0 m (sym (get_or_from_slice_get code k i.0 i.0 i.1)) in
    ap (λ (n : ℕ). (context_at code n).inside) (sym (add-one k))
    ∙ ap (λ (c : Context). c.inside) more
    ∙ step i.0.op i.0.operands (context_at code k) k (function_of code k) (inside-is code k (omega arith))
    ∙ ap (λ (o : Option Op). not (nat_eq (under_function o (suc k) (function_of code k)) 0)) (sym (op-there code k i.0 i.1))
