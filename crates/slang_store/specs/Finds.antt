-- What was found under a name, against what the name holds.
use Rattle.std.specs.Prelude.{◌≡◌, ℕ, ◌≤◌, ◌<◌, List, length, Option, Some, None}
use Rattle.slang_store.specs.declared.files.Found.{Found}
use Rattle.slang_store.specs.declared.files.Found.TheVariants.{Bytes, Absent, TooLong}
use Rattle.slang_store.specs.Contents.{IsLonger}

-- what was found is no longer than the limit
abbrev pub FoundWithin : ℕ → Found → Type 0
FoundWithin limit (Bytes bytes) = length bytes.items ≤ limit
FoundWithin limit Absent = Unit {0}
FoundWithin limit TooLong = Unit {0}

-- it is what the name holds
abbrev pub IsFound : ℕ → Option (List ℕ) → Found → Type 0
IsFound limit held (Bytes bytes) = held ≡ Some bytes.items
IsFound limit held Absent = held ≡ None
IsFound limit held TooLong = IsLonger limit held
