use Rattle.std.proofs.Common.{◌≡◌}
use Rattle.flat_values.specs.Ranges.{range_at, written}
use Rattle.flat_values.proofs.ranges.copy_from_first.Given as goal

abbrev pub invariant-loop-k : goal.invariant-loop-k
invariant-loop-k l = l.words ≡ written l.fn.words l.to (range_at l.fn.words l.from l.k)
