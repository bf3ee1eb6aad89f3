-- What the search for a fault finds.
use Rattle.std.specs.Prelude.{ℕ, Option, Some, None}
use Rattle.spirv_words.specs.declared.images.Image.{Image}
use Rattle.spirv_words.specs.declared.faults.ImageCode.{ImageCode}
use Rattle.spirv_check.specs.declared.faults.Fault.{Fault}
use Rattle.spirv_check.specs.Valid.{Breaks, FirstInvalid}

-- the first fault, or none if no rule is broken
abbrev pub IsFirstFault : Image → Option Fault → Type 0
IsFirstFault image None = (code : ImageCode) (place : ℕ) → Breaks image code place → ⊥
IsFirstFault image (Some fault) = FirstInvalid image fault.place fault.code
