use Rattle.std.proofs.Common.{◌+◌, nat_eq, vec_len}
use Rattle.std.specs.HashSet.{contains}
use Rattle.call_graph.specs.Unseen.{unseen}
use Rattle.call_graph.proofs.Turns.{Searched}
use Rattle.call_graph.proofs.reach.leads.Given as goal

abbrev pub invariant-loop-function : goal.invariant-loop-function
invariant-loop-function l = Searched l.edges l.from (contains nat_eq l.seen) l.stack.items

abbrev pub decreases-loop-function : goal.decreases-loop-function
decreases-loop-function l = unseen l.edges (contains nat_eq l.seen) + vec_len l.stack
