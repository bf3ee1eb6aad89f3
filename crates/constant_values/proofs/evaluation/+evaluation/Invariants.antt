use Rattle.std.proofs.Common.{◌≡◌, ◌≤◌, map, drop, length}
use Rattle.type_terms.specs.Values.{value_of, vector_worth}
use Rattle.constant_values.proofs.evaluation.+evaluation.Given as goal

abbrev pub invariant-vector_worth-loop-left : goal.invariant-vector_worth-loop-left
invariant-vector_worth-loop-left l = (l.left ≤ length l.parts) × (l.made ≡ vector_worth l.is_unsigned (map value_of (drop l.left l.parts)))

abbrev pub decreases-vector_worth-loop-left : goal.decreases-vector_worth-loop-left
decreases-vector_worth-loop-left l = l.left
