-- Where a name stands in a list of names.
use Rattle.std.specs.Prelude.{ℕ, ◌+◌, List, [], ◌∷◌, Option, Some, None, bytes_eq, cond}

-- what is found further behind, or else here
abbrev pub or_here : {A : Type 0} → Option A → Option A → Option A
or_here (Some a) b = Some a
or_here None b = b

-- the number of the last name that has these bytes, where the first name has that number
abbrev pub last_place : List ℕ → List (List ℕ) → ℕ → Option ℕ
last_place name [] from = None
last_place name (x ∷ xs) from = or_here (last_place name xs (from + 1)) (cond (bytes_eq x name) (Some from) None)
