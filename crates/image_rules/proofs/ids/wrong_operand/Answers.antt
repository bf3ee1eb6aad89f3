use borrow.Author.Count.{below_more}
use Rattle.std.proofs.Common.{rules, arith}
use Rattle.std.proofs.lemmas.Grind.{common_steps}
use Rattle.image_rules.proofs.ids.wrong_operand.Goals as goal

pub loop-operand-preserved : goal.loop-operand-preserved
loop-operand-preserved c = below_more _ _ c.loop-operand.invariant (first_of (search rules, grind (arith, common_steps)))
