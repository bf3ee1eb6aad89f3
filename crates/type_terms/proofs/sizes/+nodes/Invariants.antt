use Rattle.std.proofs.Common.{◌≡◌, ◌+◌, sum, map, drop}
use Rattle.type_terms.specs.Types.{nodes_of_arg}
use Rattle.type_terms.proofs.sizes.+nodes.Given as goal

abbrev pub invariant-left_of_args-loop-arg : goal.invariant-left_of_args-loop-arg
invariant-left_of_args-loop-arg l = l.left + sum (map nodes_of_arg l.args) ≡ l.nodes_left + sum (map nodes_of_arg (drop l.arg-index l.args))
