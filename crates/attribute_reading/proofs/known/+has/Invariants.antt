use Rattle.std.proofs.Common.{length}
use Rattle.attribute_reading.proofs.known.+has.Given as goal

abbrev pub decreases-has : goal.decreases-has
decreases-has l = length l.list.now
