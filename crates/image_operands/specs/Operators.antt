-- The types of operators.
use Rattle.std.specs.Prelude.{ℕ, Bool, true, false, ◌&&◌, nat_eq, List, slice_index}
use Rattle.spirv_words.specs.declared.images.Instruction.{Instruction}
use Rattle.image_lookup.specs.declared.sorts.Sort.{Sort}
use Rattle.image_lookup.specs.declared.sorts.Sort.TheVariants.{BoolType, IntType, VectorType}
use Rattle.image_lookup.specs.Lookups.{sort, operand, is_value}
use Rattle.image_declarations.specs.Holdings.{has_type}
use Rattle.image_operands.specs.declared.operators.Numbers.{Numbers}
use Rattle.image_operands.specs.declared.operators.Numbers.TheVariants.{Either, Ints, Uints}

abbrev pub is_bool_sort : Sort → Bool
is_bool_sort BoolType = true
is_bool_sort sort = false

abbrev pub is_int_sort : Sort → Bool
is_int_sort IntType = true
is_int_sort sort = false

abbrev pub is_bool : List Instruction → ℕ → Bool
is_bool code t = is_bool_sort (sort code t)

-- an int or a uint
abbrev pub is_int : List Instruction → ℕ → Bool
is_int code t = is_int_sort (sort code t)

abbrev pub is_uint : List Instruction → ℕ → Bool
is_uint code t = is_int code t && nat_eq (operand code t 2) 0

abbrev pub if_vector : Sort → ℕ → ℕ → ℕ
if_vector VectorType of else = of
if_vector sort of else = else

-- the type of a vector's components, and of others the type itself
abbrev pub component : List Instruction → ℕ → ℕ
component code t = if_vector (sort code t) (operand code t 1) t

-- the number of a vector's components; 1 for others
abbrev pub lanes : List Instruction → ℕ → ℕ
lanes code t = if_vector (sort code t) (operand code t 2) 1

-- the numbers that an operator takes are int, uint, or both
abbrev pub suits : List Instruction → Numbers → ℕ → Bool
suits code Either t = true
suits code Ints t = nat_eq (operand code t 2) 1
suits code Uints t = nat_eq (operand code t 2) 0

-- one of these numbers, or a vector of them
unfoldable pub is_number : List Instruction → Numbers → ℕ → Bool
is_number code numbers t = is_int code (component code t) && suits code numbers (component code t)

-- one operand, of the type of the result
unfoldable pub unary_fits : List Instruction → Instruction → Bool
unary_fits code i = is_number code Either (slice_index i.operands 0) && has_type code (slice_index i.operands 2) (slice_index i.operands 0)

-- two operands, of the type of the result
unfoldable pub binary_fits : List Instruction → Numbers → Instruction → Bool
binary_fits code numbers i =
    is_number code numbers (slice_index i.operands 0) && has_type code (slice_index i.operands 2) (slice_index i.operands 0)
    && has_type code (slice_index i.operands 3) (slice_index i.operands 0)

-- an operand of the type of the result, and amounts of either kind, one for each of its components
unfoldable pub shift_fits : List Instruction → Numbers → Instruction → Bool
shift_fits code numbers i =
    let of = slice_index i.operands 0 in
    let amount = slice_index i.operands 3 in
    is_number code numbers of && has_type code (slice_index i.operands 2) of && is_value code amount
    && is_number code Either (operand code amount 0) && nat_eq (lanes code (operand code amount 0)) (lanes code of)

-- two numbers of one type, and a bool as result
unfoldable pub comparison_fits : List Instruction → Numbers → Instruction → Bool
comparison_fits code numbers i =
    let first = slice_index i.operands 2 in
    let of = operand code first 0 in
    is_bool code (slice_index i.operands 0) && is_value code first && has_type code (slice_index i.operands 3) of
    && is_int code of && suits code numbers of

-- one truth, of the type of the result
unfoldable pub negation_fits : List Instruction → Instruction → Bool
negation_fits code i = is_bool code (slice_index i.operands 0) && has_type code (slice_index i.operands 2) (slice_index i.operands 0)

-- two truths, of the type of the result
unfoldable pub logical_fits : List Instruction → Instruction → Bool
logical_fits code i = negation_fits code i && has_type code (slice_index i.operands 3) (slice_index i.operands 0)

-- numbers as others, with as many components
unfoldable pub bits_fit : List Instruction → Instruction → Bool
bits_fit code i =
    let to = slice_index i.operands 0 in
    let value = slice_index i.operands 2 in
    let from = operand code value 0 in
    is_number code Either to && is_value code value && is_number code Either from && nat_eq (lanes code from) (lanes code to)

-- the condition of a branch is a truth
unfoldable pub condition_fits : List Instruction → Instruction → Bool
condition_fits code i =
    is_value code (slice_index i.operands 0) && is_bool code (operand code (slice_index i.operands 0) 0)
