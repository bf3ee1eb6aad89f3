use Rattle.std.proofs.Common.{arith, ◌∙◌}
use Rattle.std.proofs.lemmas.Grind.{common_steps}
use Rattle.spirv_words.proofs.Endings.{goes_on_here, ends_here, broken_here}
use Rattle.spirv_words.proofs.layouts.after_string.Goals as goal

pub returns-in-Ends : goal.returns-in-Ends
returns-in-Ends c = ends_here c.args.words.now c.loop-i.i c.loop-i-test.true c.in-Ends.ensures ∙ c.loop-i.invariant

pub returns-in-Broken : goal.returns-in-Broken
returns-in-Broken c = broken_here c.args.words.now c.loop-i.i c.loop-i-test.true c.in-Broken.ensures ∙ c.loop-i.invariant

pub loop-i-preserved : goal.loop-i-preserved
loop-i-preserved c = goes_on_here c.args.words.now c.loop-i.i c.loop-i-test.true c.in-GoesOn.ensures ∙ c.loop-i.invariant

pub returns : goal.returns
returns c = grind (arith, common_steps)
