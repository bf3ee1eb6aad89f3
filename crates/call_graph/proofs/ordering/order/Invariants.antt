use Rattle.std.proofs.Common.{nat_eq}
use Rattle.std.specs.HashSet.{contains}
use Rattle.call_graph.specs.Order.{IsSearched, turns}
use Rattle.call_graph.proofs.ordering.order.Given as goal

abbrev pub invariant-loop-visit : goal.invariant-loop-visit
invariant-loop-visit l = IsSearched l.edges (contains nat_eq l.search.seen) (contains nat_eq l.search.done) l.search.order.items l.search.stack.items

abbrev pub decreases-loop-visit : goal.decreases-loop-visit
decreases-loop-visit l = turns l.edges (contains nat_eq l.search.seen) l.search.stack.items
