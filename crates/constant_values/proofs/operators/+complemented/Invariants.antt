use Rattle.std.proofs.Common.{length}
use Rattle.constant_values.proofs.operators.+complemented.Given as goal

abbrev pub decreases-complemented : goal.decreases-complemented
decreases-complemented l = length l.words.now
