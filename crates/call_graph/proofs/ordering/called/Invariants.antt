use Rattle.std.proofs.Common.{◌≡◌, take}
use Rattle.call_graph.specs.Order.{called}
use Rattle.call_graph.proofs.ordering.called.Given as goal

abbrev pub invariant-loop-callee : goal.invariant-loop-callee
invariant-loop-callee l = l.called.items ≡ called (take l.callee-index l.edges)
