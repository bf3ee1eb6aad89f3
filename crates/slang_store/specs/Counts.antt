-- Counts of faults of the outside.
use Rattle.std.specs.Prelude.{◌≡◌, ℕ, ◌<◌, ◌⊎◌}

-- the last value of a u64, where a count stays
abbrev pub last_count : ℕ
last_count = 18446744073709551615

-- the count went up, or stands at its last value, which counts as risen
abbrev pub Rose : ℕ → ℕ → Type 0
Rose old new = (old < new) ⊎ (new ≡ last_count)

-- how many reads and how many puts failed
pub record FaultCounts : Type 0 where
  pub reads : ℕ
  pub puts : ℕ
