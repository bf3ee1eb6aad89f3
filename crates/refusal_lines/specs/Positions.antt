-- Lines and columns of a place in a text. A line ends with a line feed, which is its last byte.
use Rattle.std.specs.Prelude.{ℕ, ◌+◌, ◌≤◌, ◌<◌, ◌≡◌, ◌≢◌, ◌⊎◌, ◌==◌, if◌then◌else◌, List, [], ◌∷◌, length, slice_index}

-- 1 of a line feed
abbrev pub feed : ℕ → ℕ
feed b = if b == 10 then 1 else 0

-- how many line feeds there are
unfoldable pub feeds : List ℕ → ℕ
feeds [] = 0
feeds (b ∷ bs) = feed b + feeds bs

-- no line feed stands from one place up to before another
abbrev pub NoFeed : List ℕ → ℕ → ℕ → Type 0
NoFeed text from to = (i : ℕ) → from ≤ i → i < to → slice_index text i ≢ 10

-- a line begins at that place: at the front, or behind a line feed
abbrev pub BeginsAt : List ℕ → ℕ → Type 0
BeginsAt text start = (start ≡ 0) ⊎ ((n : ℕ) × (start ≡ n + 1) × (slice_index text n ≡ 10))

-- the line of a place begins there
abbrev pub IsLineStart : List ℕ → ℕ → ℕ → Type 0
IsLineStart text place start = (start ≤ place) × NoFeed text start place × BeginsAt text start

-- the line of a place ends there: at its line feed, or at the end of the text
abbrev pub IsLineEnd : List ℕ → ℕ → ℕ → Type 0
IsLineEnd text place end = (place ≤ end) × NoFeed text place end × ((end ≡ length text) ⊎ ((end < length text) × (slice_index text end ≡ 10)))
