use Rattle.std.proofs.Common.{◌≡◌, ◌≤◌, ℕ, true, take}
use Rattle.call_graph.specs.Edges.{calls_it, rank}
use Rattle.call_graph.proofs.ranks.descend.Given as goal

abbrev pub invariant-loop-caller : goal.invariant-loop-caller
invariant-loop-caller l = (from to : ℕ) → calls_it (take l.caller-index l.edges) from to ≡ true → rank l.ranks to ≤ rank l.ranks from
