-- What the instruction at a place gives.
use Rattle.std.specs.Prelude.{ℕ, List, Option, None, slice_get}
use Rattle.spirv_words.specs.declared.images.Instruction.{Instruction}
use Rattle.spirv_words.specs.Machine.{if_some, second_of}

-- the id that the instruction at a place has behind its type
abbrev pub given_at : List Instruction → ℕ → Option ℕ
given_at code place = if_some (slice_get code place) None (λ i. second_of i.operands)
