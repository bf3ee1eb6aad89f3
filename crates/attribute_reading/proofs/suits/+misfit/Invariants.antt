use Rattle.std.proofs.Common.{length}
use Rattle.attribute_reading.proofs.suits.+misfit.Given as goal

abbrev pub decreases-misfit : goal.decreases-misfit
decreases-misfit l = length l.list.now
