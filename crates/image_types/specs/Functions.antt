-- The types of functions, of their parameters and of what they give back.
use Rattle.std.specs.Prelude.{ℕ, suc, ◌+◌, Bool, true, false, ◌&&◌, cond, nat_eq, nat_le, List, [], ◌∷◌, length, drop, slice_index, slice_get}
use Rattle.spirv_words.specs.declared.opcodes.Op.{Op}
use Rattle.spirv_words.specs.declared.opcodes.Op.TheVariants.{Function, FunctionParameter, FunctionEnd}
use Rattle.spirv_words.specs.declared.images.Instruction.{Instruction}
use Rattle.spirv_words.specs.Machine.{place_of, if_some}
use Rattle.spirv_words.specs.Runs.{entry_of}
use Rattle.image_lookup.specs.declared.sorts.Sort.{Sort}
use Rattle.image_lookup.specs.declared.sorts.Sort.TheVariants.{VoidType, FunctionType, Callee}
use Rattle.image_lookup.specs.Lookups.{sort, operands, operand}
use Rattle.image_declarations.specs.Reach.{is_id}
use Rattle.image_declarations.specs.Holdings.{has_type, is_data}
use Rattle.image_operands.specs.Memory.{is_pointer, global_fits}
use Rattle.image_types.specs.declared.functions.Context.{Context}

-- ---- where an instruction stands

-- before the first instruction
abbrev pub outside : Context
outside = record { inside = false; result_type = 0; type_id = 0; parameters = 0 }

abbrev pub after_op : Op → List ℕ → Context → Context
after_op Function os c = record { inside = true; result_type = slice_index os 0; type_id = slice_index os 3; parameters = 0 }
after_op FunctionParameter os c = record c { parameters = c.parameters + 1 }
after_op FunctionEnd os c = outside
after_op op os c = c

-- behind an instruction
abbrev pub after : Context → Instruction → Context
after c i = after_op i.op i.operands c

-- ---- tests

abbrev pub is_void_sort : Sort → Bool
is_void_sort VoidType = true
is_void_sort sort = false

abbrev pub is_function_type_sort : Sort → Bool
is_function_type_sort FunctionType = true
is_function_type_sort sort = false

abbrev pub is_function_sort : Sort → Bool
is_function_sort Callee = true
is_function_sort sort = false

abbrev pub is_void : List Instruction → ℕ → Bool
is_void code t = is_void_sort (sort code t)

abbrev pub is_function_type : List Instruction → ℕ → Bool
is_function_type code t = is_function_type_sort (sort code t)

abbrev pub is_function : List Instruction → ℕ → Bool
is_function code id = is_function_sort (sort code id)

abbrev pub is_parameter : Op → Bool
is_parameter FunctionParameter = true
is_parameter op = false

-- how many parameters stand first
abbrev pub leading_parameters : List Instruction → ℕ
leading_parameters [] = 0
leading_parameters (i ∷ is) = cond (is_parameter i.op) (leading_parameters is + 1) 0

-- ---- functions

-- a function's type is one of functions with its result, and each of its parameters follows
unfoldable pub function_fits : List Instruction → Instruction → List Instruction → Bool
function_fits code i behind =
    let type = slice_index i.operands 3 in
    is_function_type code type && nat_eq (operand code type 1) (slice_index i.operands 0)
    && nat_le (length (drop 2 (operands code type))) (leading_parameters behind)

-- a parameter has the type that its function's type has at its place
unfoldable pub parameter_fits : List Instruction → Context → Instruction → Bool
parameter_fits code context i = is_id (slice_get (drop 2 (operands code context.type_id)) context.parameters) (slice_index i.operands 0)

-- its type is one of pointers of its class; in a function it is a Function variable, and holds data
unfoldable pub variable_fits : List Instruction → Context → Instruction → Bool
variable_fits code context i =
    let pointer = slice_index i.operands 0 in
    let class = slice_index i.operands 2 in
    let of = operand code pointer 2 in
    is_pointer code pointer && nat_eq (operand code pointer 1) class
    && cond context.inside (nat_eq class 7 && is_data code of) (global_fits code class of (slice_index i.operands 1))

-- what is called is a function with this result; its arguments are judged by the rules on calls
unfoldable pub call_fits : List Instruction → Instruction → Bool
call_fits code i =
    let function = slice_index i.operands 2 in
    is_function code function && nat_eq (operand code function 0) (slice_index i.operands 0)

-- a function without result returns
unfoldable pub return_fits : List Instruction → Context → Bool
return_fits code context = is_void code context.result_type

-- a function gives back data of its result's type
unfoldable pub return_value_fits : List Instruction → Context → Instruction → Bool
return_value_fits code context i = is_data code context.result_type && has_type code (slice_index i.operands 0) context.result_type

-- ---- the entry point

-- how many parameters a function has
unfoldable pub parameters_of : List Instruction → ℕ → ℕ
parameters_of code function = if_some (place_of code function 0) 0 (λ place. leading_parameters (drop (suc place) code))

-- the entry point is a function without parameters and result
unfoldable pub entry_fits : List Instruction → Instruction → Bool
entry_fits code i =
    let function = slice_index i.operands 1 in
    is_function code function && is_void code (operand code function 0) && nat_eq (parameters_of code function) 0

-- the mode is that of the entry point's function
unfoldable pub mode_fits : List Instruction → Instruction → Bool
mode_fits code i = is_id (entry_of code) (slice_index i.operands 0)
