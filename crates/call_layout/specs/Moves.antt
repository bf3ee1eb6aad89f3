-- Functions are moved behind those that call them, one after the other.
use Rattle.std.specs.Prelude.{◌≡◌, ◌⊎◌, ℕ, ◌+◌, ◌^◌, ◌<◌, ◌≤◌, true, false, nat_eq, List, length, slice_index}
use Rattle.std.specs.List.{list_any}
use Rattle.call_graph.specs.Edges.{calls_it}
use Rattle.call_layout.specs.Chains.{AreNumbered, IsReached}

-- where functions begin, so that those which are done stand behind all that call them
pub record AreBegun (words : List ℕ) (es : List (ℕ × ℕ)) (done : List ℕ) (begins : List ℕ) : Type 0 where
  pub as_many : length begins ≡ length words
  pub first : slice_index begins 0 ≡ 0
  pub reached : (f : ℕ) → 0 < f → f < length words → IsReached words es f (slice_index begins f)
  pub closed : (caller callee : ℕ) → list_any (nat_eq callee) done ≡ true → calls_it es caller callee ≡ true → list_any (nat_eq caller) done ≡ true
  pub behind : (caller callee : ℕ) → list_any (nat_eq callee) done ≡ true → calls_it es caller callee ≡ true
      → slice_index begins caller + slice_index words caller ≤ slice_index begins callee
  pub within : (f : ℕ) → f < length words → slice_index begins f + slice_index words f < 2 ^ 32

-- the greatest of a place and of the ends of these functions
pub record IsLatest (words begins callers : List ℕ) (place latest : ℕ) : Type 0 where
  pub least : place ≤ latest
  pub each : (caller : ℕ) → list_any (nat_eq caller) callers ≡ true → slice_index begins caller + slice_index words caller ≤ latest
  pub one : (latest ≡ place) ⊎ ((caller : ℕ) × (list_any (nat_eq caller) callers ≡ true) × (latest ≡ slice_index begins caller + slice_index words caller))

-- a function whose callers are these, all of them done, is not done
pub record IsNext (words : List ℕ) (es : List (ℕ × ℕ)) (done callers : List ℕ) (f : ℕ) : Type 0 where
  pub numbered : AreNumbered words es
  pub callers_are : (caller : ℕ) → list_any (nat_eq caller) callers ≡ calls_it es caller f
  pub callers_done : (caller : ℕ) → calls_it es caller f ≡ true → list_any (nat_eq caller) done ≡ true
  pub new : list_any (nat_eq f) done ≡ false

-- so many functions all begin behind what is outside of them, and 32 bits tell where they end
pub record AreStarted (words : List ℕ) (k : ℕ) (begins : List ℕ) : Type 0 where
  pub as_many : length begins ≡ k
  pub first : slice_index begins 0 ≡ 0
  pub begin : (f : ℕ) → 0 < f → f < k → slice_index begins f ≡ slice_index words 0
  pub within : (f : ℕ) → f < k → slice_index begins f + slice_index words f < 2 ^ 32
