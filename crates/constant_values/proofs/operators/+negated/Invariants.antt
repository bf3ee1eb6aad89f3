use Rattle.std.proofs.Common.{length}
use Rattle.constant_values.proofs.operators.+negated.Given as goal

abbrev pub decreases-negated : goal.decreases-negated
decreases-negated l = length l.words.now
