use Rattle.std.proofs.Common.{◌≡◌, ℕ, take}
use Rattle.call_graph.specs.Edges.{callees, listed}
use Rattle.call_graph.proofs.edges.callees.Given as goal

abbrev pub invariant-loop-caller : goal.invariant-loop-caller
invariant-loop-caller l = (id : ℕ) → listed l.map id ≡ callees (take l.caller-index l.edges) id
