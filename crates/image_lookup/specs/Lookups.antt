-- What the ids of an image stand for.
use Rattle.std.specs.Prelude.{ℕ, Bool, List, [], Option, Some, None, slice_index}
use Rattle.spirv_words.specs.declared.images.Instruction.{Instruction}
use Rattle.spirv_words.specs.Machine.{definition_of}
use Rattle.image_lookup.specs.declared.sorts.Sort.{Sort}
use Rattle.image_lookup.specs.declared.sorts.Sort.TheVariants.{Nothing}
use Rattle.image_lookup.specs.Sorts.{sort_of, is_value_sort}

abbrev pub sort_in : Option Instruction → Sort
sort_in None = Nothing
sort_in (Some i) = sort_of i.op

abbrev pub operands_in : Option Instruction → List ℕ
operands_in None = []
operands_in (Some i) = i.operands

-- what the instruction that defines an id defines
unfoldable pub sort : List Instruction → ℕ → Sort
sort code id = sort_in (definition_of code id)

-- the operands of the instruction that defines an id
unfoldable pub operands : List Instruction → ℕ → List ℕ
operands code id = operands_in (definition_of code id)

-- one of them, counted from 0
abbrev pub operand : List Instruction → ℕ → ℕ → ℕ
operand code id n = slice_index (operands code id) n

abbrev pub is_value : List Instruction → ℕ → Bool
is_value code id = is_value_sort (sort code id)
