-- What leads back to itself in a graph, which is the list of its edges.
use Rattle.std.specs.Prelude.{ℕ, Bool, ◌&&◌, ◌||◌, ◌+◌, zero, suc, List, [], ◌∷◌}
use Rattle.call_graph.specs.Edges.{calls_it}

-- edges from one node
abbrev pub edges_from : ℕ → List ℕ → List (ℕ × ℕ)
edges_from n [] = []
edges_from n (x ∷ xs) = (n, x) ∷ edges_from n xs

-- the first leads to the second by edges, over nodes below `k` alone
abbrev pub leads_below : List (ℕ × ℕ) → ℕ → ℕ → ℕ → Bool
leads_below es zero m n = calls_it es m n
leads_below es (suc k) m n = leads_below es k m n || (leads_below es k m k && leads_below es k k n)

-- a number above all nodes to which an edge goes
abbrev pub past : List (ℕ × ℕ) → ℕ
past [] = 0
past (e ∷ es) = suc e.1 + past es

-- by one edge or more
abbrev pub leads : List (ℕ × ℕ) → ℕ → ℕ → Bool
leads es m n = leads_below es (past es) m n
