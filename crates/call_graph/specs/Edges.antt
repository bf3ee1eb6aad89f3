-- A graph of calls, as the list of its edges: which function calls which, by their numbers or ids.
use Rattle.std.specs.Prelude.{◌≡◌, ℕ, Bool, true, ◌&&◌, cond, nat_eq, List, [], ◌∷◌, Option, Some, None}
use Rattle.std.specs.List.{list_any}
use Rattle.std.specs.Global.{Vec}
use Rattle.std.specs.HashMap.{HashMap, get}

-- the functions that a function calls
abbrev pub callees : List (ℕ × ℕ) → ℕ → List ℕ
callees [] id = []
callees (e ∷ es) id = cond (nat_eq e.0 id) (e.1 ∷ callees es id) (callees es id)

-- the functions that a map lists for a function
abbrev pub items_in : Option (Vec ℕ) → List ℕ
items_in None = []
items_in (Some v) = v.items

abbrev pub listed : {S : Type 0} → HashMap ℕ (Vec ℕ) S → ℕ → List ℕ
listed map id = items_in (get nat_eq map id)

-- one of these calls is from one function to another
abbrev pub calls_it : List (ℕ × ℕ) → ℕ → ℕ → Bool
calls_it edges from to = list_any (nat_eq to) (callees edges from)

-- each function calls the next, and the last is this one
abbrev pub is_walk : List (ℕ × ℕ) → ℕ → List ℕ → ℕ → Bool
is_walk edges from [] to = nat_eq from to
is_walk edges from (next ∷ rest) to = calls_it edges from next && is_walk edges next rest to

-- one function leads to another by some calls, or by none to itself
abbrev pub Leads : List (ℕ × ℕ) → ℕ → ℕ → Type 0
Leads edges from to = (over : List ℕ) × (is_walk edges from over to ≡ true)

abbrev pub rank_in : Option ℕ → ℕ
rank_in None = 18446744073709551615
rank_in (Some n) = n

-- the number of a function; all that have none stand above those that have one
abbrev pub rank : {S : Type 0} → HashMap ℕ ℕ S → ℕ → ℕ
rank ranks id = rank_in (get nat_eq ranks id)
