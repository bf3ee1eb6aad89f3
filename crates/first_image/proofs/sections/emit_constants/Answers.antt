use Rattle.first_image.proofs.Appending.{constants_turn}
use Rattle.first_image.proofs.sections.emit_constants.Goals as goal

pub loop-i-preserved : goal.loop-i-preserved
loop-i-preserved c = constants_turn c.args.numbers.now c.loop-i.i 0 c.args.code.now c.loop-i.code c.push.new.instructions c.loop-i-test.true c.loop-i.invariant c.in_ok-push.ensures
