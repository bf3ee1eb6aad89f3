use Rattle.std.proofs.Common.{◌≡◌, ◌++◌, take}
use Rattle.call_graph.specs.Order.{entering}
use Rattle.call_graph.proofs.ordering.wait.Given as goal

abbrev pub invariant-loop-function : goal.invariant-loop-function
invariant-loop-function l = l.stack.items ≡ l.initial.stack.items ++ entering (take l.function-index l.functions)
