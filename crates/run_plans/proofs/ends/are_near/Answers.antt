use Rattle.std.proofs.Common.{◌≡◌, ◌<◌, ◌≤◌, ℕ, true, List, Some, length, slice_get, subst, sym, arith}
use Rattle.spirv_words.specs.declared.images.Instruction.{Instruction}
use Rattle.run_plans.proofs.Reached.{all_near}
use Rattle.run_plans.proofs.ends.are_near.Goals as goal

pub returns-clause-near : goal.returns-clause-near
returns-clause-near c e =
    let code = c.args.declarations.now in
    let all : length code ≤ c.loop-instruction.instruction-index =
    subst (λ (is : List Instruction). length is ≤ c.loop-instruction.instruction-index) c.code-instruction-items.ensures c.loop-instruction-test.false in
    all_near code c.requires.valid (λ k i l at. c.loop-instruction.invariant k i (omega arith) at)
