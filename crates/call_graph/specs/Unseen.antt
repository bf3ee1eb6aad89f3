-- How many calls lead to functions that were not seen.
use Rattle.std.specs.Prelude.{ℕ, ◌+◌, Bool, cond, List, [], ◌∷◌}

abbrev pub unseen : List (ℕ × ℕ) → (ℕ → Bool) → ℕ
unseen [] is_seen = 0
unseen (e ∷ es) is_seen = cond (is_seen e.1) 0 1 + unseen es is_seen
