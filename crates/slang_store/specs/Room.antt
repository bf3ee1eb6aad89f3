-- What a sink in memory shows.
use Rattle.std.specs.Prelude.{ℕ, List}

-- the bytes that were taken, how many more fit, and how many calls failed
pub record SinkState : Type 0 where
  pub bytes : List ℕ
  pub left : ℕ
  pub faults : ℕ
