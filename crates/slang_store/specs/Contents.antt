-- What names hold, and what a put leaves.
use Rattle.std.specs.Prelude.{◌≡◌, ℕ, ◌<◌, ◌⊎◌, List, ◌++◌, length, Option, Some, if◌then◌else◌, bytes_eq}

-- the bytes of each name, or None where it has none
abbrev pub Contents : Type 0
Contents = List ℕ → Option (List ℕ)

-- the same, with these bytes at the name
abbrev pub with_entry : Contents → List ℕ → List ℕ → Contents
with_entry m name bytes other = if bytes_eq name other then Some bytes else m other

-- p is what some bytes begin with
abbrev pub IsPrefixOf : List ℕ → List ℕ → Type 0
IsPrefixOf p bytes = (rest : List ℕ) × (bytes ≡ p ++ rest)

-- n is m, or m with a part of the bytes, from their first on, at the name
abbrev pub Partly : Contents → List ℕ → List ℕ → Contents → Type 0
Partly m name bytes n = (n ≡ m) ⊎ ((p : List ℕ) × IsPrefixOf p bytes × (n ≡ with_entry m name p))

-- there are bytes, more than the limit
abbrev pub IsLonger : ℕ → Option (List ℕ) → Type 0
IsLonger limit held = (bytes : List ℕ) × (held ≡ Some bytes) × (limit < length bytes)
