use Rattle.std.proofs.Common.{◌≡◌, ◌≤◌, ℕ, List, length, ◌∙◌, subst}
use Rattle.spirv_words.specs.declared.images.Instruction.{Instruction}
use Rattle.run_plans.proofs.Rows.{all_rows}
use Rattle.run_plans.proofs.members.rows_of.Goals as goal

pub returns : goal.returns
returns c =
    let same : c.code-instruction-items.result.now ≡ c.args.places.now.code = c.code-instruction-items.ensures ∙ c.declarations.ensures in
    all_rows c.args.places.now.code c.loop-instruction.instruction-index c.loop-instruction.known c.loop-instruction.invariant
    (subst (λ (is : List Instruction). length is ≤ c.loop-instruction.instruction-index) same c.loop-instruction-test.false)
