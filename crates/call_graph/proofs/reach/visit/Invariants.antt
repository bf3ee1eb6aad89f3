use Rattle.std.proofs.Common.{◌≡◌, ◌+◌, ◌≤◌, ◌||◌, ◌&&◌, ℕ, List, not, true, nat_eq, take, vec_len}
use Rattle.std.specs.List.{list_any}
use Rattle.std.specs.HashSet.{contains}
use Rattle.call_graph.specs.Edges.{calls_it}
use Rattle.call_graph.specs.Unseen.{unseen}
use Rattle.call_graph.proofs.reach.visit.Given as goal

abbrev pub invariant-loop-function : goal.invariant-loop-function
invariant-loop-function l =
    ((q : ℕ) → contains nat_eq l.seen q ≡ (list_any (nat_eq q) (take l.function-index l.functions) || contains nat_eq l.initial.seen q))
    × ((q : ℕ) → list_any (nat_eq q) l.stack.items
    ≡ (list_any (nat_eq q) l.initial.stack.items || (list_any (nat_eq q) (take l.function-index l.functions) && not (contains nat_eq l.initial.seen q))))
    × ((es : List (ℕ × ℕ)) (x : ℕ) → ((q : ℕ) → list_any (nat_eq q) l.functions ≡ true → calls_it es x q ≡ true)
    → unseen es (contains nat_eq l.seen) + vec_len l.stack ≤ unseen es (contains nat_eq l.initial.seen) + vec_len l.initial.stack)
