use Rattle.std.proofs.Common.{length}
use Rattle.attribute_reading.proofs.known.+possible.Given as goal

abbrev pub decreases-possible : goal.decreases-possible
decreases-possible l = length l.targets.now
