-- The invocations of a run: how many, in which order, and the built-in values of each.
use Rattle.std.specs.Prelude.{◌≡◌, ℕ, ◌+◌, ◌*◌, ◌/◌, ◌%◌, ◌<◌, List, [], ◌∷◌, slice_index}
use Rattle.run_buffers.specs.declared.ids.Ids.{Ids}

-- how many places there are along x, y and z together
abbrev pub volume : List ℕ → ℕ
volume size = slice_index size 0 * slice_index size 1 * slice_index size 2

-- the place with the number n, where x counts fastest, then y, then z
abbrev pub place : List ℕ → ℕ → List ℕ
place size n = (n % slice_index size 0) ∷ (n / slice_index size 0 % slice_index size 1) ∷ (n / slice_index size 0 / slice_index size 1) ∷ []

-- the number of a place
abbrev pub number_of : List ℕ → List ℕ → ℕ
number_of size p = slice_index p 0 + slice_index size 0 * (slice_index p 1 + slice_index size 1 * slice_index p 2)

-- where a group's invocation stands among all, along x, y and z
abbrev pub global_of : List ℕ → List ℕ → List ℕ → List ℕ
global_of size group local =
    (slice_index group 0 * slice_index size 0 + slice_index local 0)
    ∷ (slice_index group 1 * slice_index size 1 + slice_index local 1)
    ∷ (slice_index group 2 * slice_index size 2 + slice_index local 2)
    ∷ []

-- the built-in values of the invocation with the number n: groups stand in the order of their places, and in each group
-- the invocations in the order of theirs
abbrev pub ids_of : List ℕ → List ℕ → ℕ → Ids
ids_of size groups n =
    let group = place groups (n / volume size) in
    let local = place size (n % volume size) in
    record { group = group; local = local; global = global_of size group local; index = number_of size local }

-- a place of three parts, each below the size
pub data IsPlace (size : List ℕ) (p : List ℕ) : Type 0 where
  Parts : (x y z : ℕ) → p ≡ x ∷ y ∷ z ∷ [] → x < slice_index size 0 → y < slice_index size 1 → z < slice_index size 2 → IsPlace size p
