-- A map from ids to the places of their definitions.
use Rattle.std.specs.Prelude.{◌≡◌, ℕ, List, nat_eq}
use Rattle.std.specs.HashMap.{HashMap, get}
use Rattle.spirv_words.specs.declared.images.Instruction.{Instruction}
use Rattle.spirv_words.specs.Machine.{place_of}

-- each id has the place of the instruction that defines it, counted from a number on
abbrev pub Finds : {S : Type 0} → HashMap ℕ ℕ S → List Instruction → ℕ → Type 0
Finds places code from = (id : ℕ) → get nat_eq places id ≡ place_of code id from
