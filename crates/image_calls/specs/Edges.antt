-- Which function calls which.
use Rattle.std.specs.Prelude.{ℕ, ◌++◌, List, [], ◌∷◌, Option, Some, None, option_to_list, slice_index}
use Rattle.spirv_words.specs.declared.opcodes.Op.{Op}
use Rattle.spirv_words.specs.declared.opcodes.Op.TheVariants.{Function, FunctionEnd, FunctionCall}
use Rattle.spirv_words.specs.declared.images.Instruction.{Instruction}

abbrev pub open_by : Op → List ℕ → Option ℕ → Option ℕ
open_by Function os inside = Some (slice_index os 1)
open_by FunctionEnd os inside = None
open_by op os inside = inside

-- the function that is open behind an instruction
abbrev pub open_after : Instruction → Option ℕ → Option ℕ
open_after i inside = open_by i.op i.operands inside

abbrev pub edge_by : Op → List ℕ → Option ℕ → Option (ℕ × ℕ)
edge_by FunctionCall os (Some caller) = Some (caller, slice_index os 2)
edge_by op os inside = None

-- the function that calls and the one that it calls, if an instruction is a call in a function
abbrev pub edge_of : Instruction → Option ℕ → Option (ℕ × ℕ)
edge_of i inside = edge_by i.op i.operands inside

-- all calls, by the function that calls and the one that it calls, where a function may be open
abbrev pub calls : Option ℕ → List Instruction → List (ℕ × ℕ)
calls inside [] = []
calls inside (i ∷ is) = option_to_list (edge_of i inside) ++ calls (open_after i inside) is
