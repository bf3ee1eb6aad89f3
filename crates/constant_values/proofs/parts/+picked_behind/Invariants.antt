use Rattle.std.proofs.Common.{length}
use Rattle.constant_values.proofs.parts.+picked_behind.Given as goal

abbrev pub decreases-picked_behind : goal.decreases-picked_behind
decreases-picked_behind l = length l.numbers.now
