use Rattle.std.proofs.Common.{◌≡◌, ℕ, List, length, Some}
use Rattle.flat_values.specs.Operators.{binary_of}
use Rattle.flat_values.specs.Ranges.{range_at, written}
use Rattle.flat_values.specs.Lanes.{both_of}
use Rattle.flat_values.proofs.ranges.operate_two_all.Given as goal

abbrev pub invariant-loop-k : goal.invariant-loop-k
invariant-loop-k l =
    (xs : List ℕ)
    × (both_of (binary_of l.op) (range_at l.fn.words l.left l.k) (range_at l.fn.words l.right l.k) ≡ Some xs)
    × (length xs ≡ l.k)
    × (l.words ≡ written l.fn.words l.to xs)
