-- Ranges of a list of words.
use Rattle.std.specs.Prelude.{◌≡◌, ℕ, ◌+◌, ◌≤◌, List, ◌++◌, length, take, drop, replicate}

-- so many words from a place on
abbrev pub range_at : List ℕ → ℕ → ℕ → List ℕ
range_at ws place count = take count (drop place ws)

-- these words stand at a place
pub record Stands (xs : List ℕ) (place : ℕ) (ws : List ℕ) : Type 0 where
  pub inside : place + length xs ≤ length ws
  pub words : range_at ws place (length xs) ≡ xs

-- the list with other words from a place on
abbrev pub written : List ℕ → ℕ → List ℕ → List ℕ
written ws place xs = take place ws ++ xs ++ drop (place + length xs) ws

-- the list with the words from one place on copied to another
abbrev pub copied : List ℕ → ℕ → ℕ → ℕ → List ℕ
copied ws from to count = written ws to (range_at ws from count)

-- the list with zeros from a place on
abbrev pub cleared : List ℕ → ℕ → ℕ → List ℕ
cleared ws place count = written ws place (replicate count 0)
