use Rattle.std.proofs.Common.{length}
use Rattle.constant_values.proofs.operators.+words_behind.Given as goal

abbrev pub decreases-words_behind : goal.decreases-words_behind
decreases-words_behind l = length l.xs.now
