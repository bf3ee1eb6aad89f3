use Rattle.std.proofs.Common.{◌≡◌, map}
use Rattle.flat_values.specs.Operators.{unary_of}
use Rattle.flat_values.specs.Ranges.{range_at, written}
use Rattle.flat_values.proofs.ranges.operate_one_all.Given as goal

abbrev pub invariant-loop-k : goal.invariant-loop-k
invariant-loop-k l = l.words ≡ written l.fn.words l.to (map (unary_of l.op) (range_at l.fn.words l.from l.k))
