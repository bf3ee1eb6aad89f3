-- What a higher bound and further answers can do to a run.
use Rattle.std.specs.Prelude.{◌≡◌, ◌≢◌, ℕ, ◌+◌, List, ◌++◌}
use Rattle.behavior.specs.Meanings.{Out, Ids, Meaning, ReachedBy}

-- with a higher bound and with more answers behind those that there were, a run does the same, or it goes on where it had run out
abbrev pub IsExtended : Meaning → Type 0
IsExtended m =
    (ids : Ids) (lengths : ℕ → ℕ → ℕ) (answers more : List ℕ) (n k : ℕ) →
    ReachedBy (m ids lengths answers n) (m ids lengths (answers ++ more) (n + k))

-- runs that are not cut off by their bounds are one run
abbrev pub IsDetermined : Meaning → Type 0
IsDetermined m =
    (ids : Ids) (lengths : ℕ → ℕ → ℕ) (answers : List ℕ) (n k : ℕ) →
    (m ids lengths answers n).ending ≢ Out → (m ids lengths answers k).ending ≢ Out → m ids lengths answers n ≡ m ids lengths answers k
