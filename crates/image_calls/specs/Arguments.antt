-- The arguments of a call.
use Rattle.std.specs.Prelude.{ℕ, Bool, true, false, ◌&&◌, ◌||◌, not, nat_eq, List, [], ◌∷◌, drop, Option, Some, None, slice_index}
use Rattle.spirv_words.specs.declared.opcodes.Op.{Op}
use Rattle.spirv_words.specs.declared.opcodes.Op.TheVariants.{FunctionCall}
use Rattle.spirv_words.specs.declared.images.Instruction.{Instruction}
use Rattle.image_lookup.specs.declared.sorts.Sort.{Sort}
use Rattle.image_lookup.specs.declared.sorts.Sort.TheVariants.{Callee}
use Rattle.image_lookup.specs.Lookups.{sort, operands, operand, is_value}

-- a value of a type
abbrev pub is_argument : List Instruction → ℕ → ℕ → Bool
is_argument code t v = is_value code v && nat_eq (operand code v 0) t

-- values of these types, one each
abbrev pub are_arguments : List Instruction → List ℕ → List ℕ → Bool
are_arguments code [] [] = true
are_arguments code (t ∷ ts) (v ∷ vs) = is_argument code t v && are_arguments code ts vs
are_arguments code ts vs = false

-- the types of the parameters of a function: those of its type, whose first operands are its own id and its result
abbrev pub parameter_types : List Instruction → ℕ → List ℕ
parameter_types code function = drop 2 (operands code (operand code function 3))

abbrev pub fit_by : List Instruction → Sort → List ℕ → List ℕ → Bool
fit_by code Callee types values = are_arguments code types values
fit_by code sort types values = true

-- a call of a function has an argument of the type of each of its parameters
unfoldable pub arguments_fit : List Instruction → Instruction → Bool
arguments_fit code i =
    fit_by code (sort code (slice_index i.operands 2)) (parameter_types code (slice_index i.operands 2)) (drop 3 i.operands)

abbrev pub is_entry : Option ℕ → ℕ → Bool
is_entry None function = false
is_entry (Some entry) function = nat_eq entry function

abbrev pub if_call : Op → Bool → Bool
if_call FunctionCall b = b
if_call op b = false

-- a call with other arguments, or of the entry
abbrev pub is_bad : List Instruction → Option ℕ → Instruction → Bool
is_bad code entry i = if_call i.op (not (arguments_fit code i) || is_entry entry (slice_index i.operands 2))
