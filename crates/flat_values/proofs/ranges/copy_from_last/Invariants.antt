use Rattle.std.proofs.Common.{◌≡◌, ◌+◌, ◌-◌, ◌≤◌}
use Rattle.flat_values.specs.Ranges.{range_at, written}
use Rattle.flat_values.proofs.ranges.copy_from_last.Given as goal

abbrev pub invariant-loop-k : goal.invariant-loop-k
invariant-loop-k l =
    (l.k ≤ l.count) × (l.words ≡ written l.fn.words (l.to + l.k) (range_at l.fn.words (l.from + l.k) (l.count - l.k)))

abbrev pub decreases-loop-k : goal.decreases-loop-k
decreases-loop-k l = l.k
