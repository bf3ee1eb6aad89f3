use Rattle.std.proofs.Common.{◌≡◌, take}
use Rattle.call_graph.specs.Order.{turned}
use Rattle.call_graph.proofs.ordering.turned.Given as goal

abbrev pub invariant-loop-caller : goal.invariant-loop-caller
invariant-loop-caller l = l.turned.items ≡ turned (take l.caller-index l.edges)
