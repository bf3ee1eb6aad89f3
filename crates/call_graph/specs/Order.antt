-- Orders of functions in which each one stands behind those that call it.
use Rattle.std.specs.Prelude.{◌≡◌, ℕ, ◌+◌, ◌*◌, ◌<◌, Bool, true, false, ◌||◌, cond, nat_eq, List, [], ◌∷◌, ◌++◌, length, map, take, get_or, Option, Some, None}
use Rattle.std.specs.List.{list_any}
use Rattle.std.specs.Global.{Vec}
use Rattle.call_graph.specs.declared.ordering.Visit.{Visit}
use Rattle.call_graph.specs.declared.ordering.Visit.TheVariants.{Enter, Leave}
use Rattle.call_graph.specs.Edges.{calls_it, Leads}
use Rattle.call_graph.specs.Unseen.{unseen}

-- the functions that call a function
abbrev pub callers : List (ℕ × ℕ) → ℕ → List ℕ
callers [] id = []
callers (e ∷ es) id = cond (nat_eq e.1 id) (e.0 ∷ callers es id) (callers es id)

-- the calls, the other way round
abbrev pub turned : List (ℕ × ℕ) → List (ℕ × ℕ)
turned [] = []
turned (e ∷ es) = (e.1, e.0) ∷ turned es

-- the functions that are called
abbrev pub called : List (ℕ × ℕ) → List ℕ
called es = map (λ e. e.1) es

-- a call whose function leads back to the one that calls
pub record HasCycle (es : List (ℕ × ℕ)) : Type 0 where
  pub caller : ℕ
  pub callee : ℕ
  pub calls : calls_it es caller callee ≡ true
  pub back : Leads es callee caller

-- each function once, and each that is called, behind all that call it
pub record IsOrder (es : List (ℕ × ℕ)) (order : List ℕ) : Type 0 where
  pub each : (caller callee : ℕ) → calls_it es caller callee ≡ true → list_any (nat_eq callee) order ≡ true
  pub behind : (k caller : ℕ) → k < length order → calls_it es caller (get_or order k 0) ≡ true → list_any (nat_eq caller) (take k order) ≡ true
  pub once : (k : ℕ) → k < length order → list_any (nat_eq (get_or order k 0)) (take k order) ≡ false

-- an order, or none, because there is a cycle
abbrev pub IsOrderIf : List (ℕ × ℕ) → Option (Vec ℕ) → Type 0
IsOrderIf es (Some order) = IsOrder es order.items
IsOrderIf es None = HasCycle es

-- ---- the search

abbrev pub function_in : Visit → ℕ
function_in (Enter f) = f
function_in (Leave f) = f

-- a function waits to be come to, or to be left
abbrev pub waits : ℕ → List Visit → Bool
waits q stack = list_any (λ v. nat_eq q (function_in v)) stack

abbrev pub is_leave : ℕ → Visit → Bool
is_leave q (Enter f) = false
is_leave q (Leave f) = nat_eq q f

abbrev pub is_open : ℕ → List Visit → Bool
is_open q stack = list_any (is_leave q) stack

abbrev pub entering : List ℕ → List Visit
entering functions = map Enter functions

-- a function leads to another by one call or more
pub record LeadsOn (es : List (ℕ × ℕ)) (from to : ℕ) : Type 0 where
  pub last : ℕ
  pub calls : calls_it es last to ≡ true
  pub way : Leads es from last

-- of a function that is open, with what waits above it on the stack: all that call it are done, or wait there; and all that wait
-- there lead to it
pub record IsOpen (es : List (ℕ × ℕ)) (done : ℕ → Bool) (u : ℕ) (above : List Visit) : Type 0 where
  pub callers : (c : ℕ) → calls_it es c u ≡ true → (done c || waits c above) ≡ true
  pub lead : (x : ℕ) → waits x above ≡ true → LeadsOn es x u

-- so is each one on the stack, whose lowest stands first
abbrev pub AreOpen : List (ℕ × ℕ) → (ℕ → Bool) → List Visit → Type 0
AreOpen es done [] = Unit {0}
AreOpen es done (Enter f ∷ above) = AreOpen es done above
AreOpen es done (Leave u ∷ above) = IsOpen es done u above × AreOpen es done above

-- functions in their order so far
pub record IsOrdered (es : List (ℕ × ℕ)) (order : List ℕ) : Type 0 where
  pub behind : (k caller : ℕ) → k < length order → calls_it es caller (get_or order k 0) ≡ true → list_any (nat_eq caller) (take k order) ≡ true
  pub once : (k : ℕ) → k < length order → list_any (nat_eq (get_or order k 0)) (take k order) ≡ false

-- what is known of the functions that were come to and of those that are done, in their order, and of those that wait
pub record IsSearched (es : List (ℕ × ℕ)) (seen done : ℕ → Bool) (order : List ℕ) (stack : List Visit) : Type 0 where
  pub opened : AreOpen es done stack
  pub seen_is : (q : ℕ) → seen q ≡ true → (done q || is_open q stack) ≡ true
  pub begun : (caller callee : ℕ) → calls_it es caller callee ≡ true → (done callee || waits callee stack) ≡ true
  pub done_is : (q : ℕ) → done q ≡ list_any (nat_eq q) order
  pub ordered : IsOrdered es order

-- an order with one more at its end, if it was not done
abbrev pub grown : (ℕ → Bool) → ℕ → List ℕ → List ℕ
grown done f order = cond (done f) order (order ++ f ∷ [])

-- the same of what a turn leaves, or a cycle
abbrev pub IsTurned : Bool → List (ℕ × ℕ) → (ℕ → Bool) → (ℕ → Bool) → List ℕ → List Visit → Type 0
IsTurned true es seen done order stack = IsSearched es seen done order stack
IsTurned false es seen done order stack = HasCycle es

-- how many turns are still to come, at most
abbrev pub weight : Visit → ℕ
weight (Enter f) = 2
weight (Leave f) = 1

abbrev pub weights : List Visit → ℕ
weights [] = 0
weights (v ∷ vs) = weight v + weights vs

abbrev pub turns : List (ℕ × ℕ) → (ℕ → Bool) → List Visit → ℕ
turns es seen stack = 2 * unseen es seen + weights stack
