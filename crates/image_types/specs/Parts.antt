-- The types that declarations are made of.
use Rattle.std.specs.Prelude.{ℕ, zero, suc, Bool, true, false, ◌&&◌, ◌||◌, not, List, length, drop, is_some, slice_index}
use Rattle.std.specs.List.{list_all}
use Rattle.spirv_words.specs.declared.images.Instruction.{Instruction}
use Rattle.image_lookup.specs.declared.sorts.Sort.{Sort}
use Rattle.image_lookup.specs.declared.sorts.Sort.TheVariants.{VoidType, BoolType, IntType, VectorType, ArrayType, RuntimeArrayType, StructType, PointerType, FunctionType, Number}
use Rattle.image_lookup.specs.Lookups.{sort, operand}
use Rattle.image_declarations.specs.Decorations.{mark, member_mark}
use Rattle.image_declarations.specs.Holdings.{is_data, is_unbounded, is_wrapper}
use Rattle.image_operands.specs.Operators.{is_bool, is_int}
use Rattle.image_operands.specs.Memory.{is_pointer}
use Rattle.image_types.specs.Functions.{is_void}
use Rattle.image_operands.specs.Marks.{is_strided, has_offsets}

abbrev pub is_type_sort : Sort → Bool
is_type_sort VoidType = true
is_type_sort BoolType = true
is_type_sort IntType = true
is_type_sort VectorType = true
is_type_sort ArrayType = true
is_type_sort RuntimeArrayType = true
is_type_sort StructType = true
is_type_sort PointerType = true
is_type_sort FunctionType = true
is_type_sort sort = false

abbrev pub is_type : List Instruction → ℕ → Bool
is_type code id = is_type_sort (sort code id)

-- a vector is of bool, int or uint
unfoldable pub vector_fits : List Instruction → Instruction → Bool
vector_fits code i = is_bool code (slice_index i.operands 1) || is_int code (slice_index i.operands 1)

-- an array that a buffer has has a stride
abbrev pub has_stride : List Instruction → ℕ → Bool
has_stride code id = not (is_strided code id) || is_some (mark code 0 id 6)

abbrev pub if_number : Sort → Bool → Bool
if_number Number b = b
if_number sort b = false

-- a Constant of int or uint
abbrev pub is_length : List Instruction → ℕ → Bool
is_length code id = if_number (sort code id) (is_int code (operand code id 0))

-- an array without length is of data, and has a stride in a buffer
unfoldable pub runtime_array_fits : List Instruction → Instruction → Bool
runtime_array_fits code i = is_data code (slice_index i.operands 1) && has_stride code (slice_index i.operands 0)

-- the same for an array, whose length is a number
unfoldable pub array_fits : List Instruction → Instruction → Bool
array_fits code i = runtime_array_fits code i && is_length code (slice_index i.operands 2)

-- each of so many members of a struct has an Offset
abbrev pub have_offsets : List Instruction → ℕ → ℕ → Bool
have_offsets code id zero = true
have_offsets code id (suc n) = have_offsets code id n && is_some (member_mark code 0 id n)

-- data, or what holds an array without length where it may
abbrev pub may_be_member : List Instruction → Bool → ℕ → Bool
may_be_member code wraps t = is_data code t || (wraps && is_unbounded code t)

-- a struct is of data, and has Offsets in a buffer; what a variable of class StorageBuffer points to may hold arrays
-- without length: there the variable is judged
unfoldable pub struct_fits : List Instruction → Instruction → Bool
struct_fits code i =
    let id = slice_index i.operands 0 in
    list_all (λ t. may_be_member code (is_wrapper code id) t) (drop 1 i.operands)
    && (not (has_offsets code id) || have_offsets code id (length (drop 1 i.operands)))

-- a pointer is to any type
unfoldable pub pointer_fits : List Instruction → Instruction → Bool
pointer_fits code i = is_type code (slice_index i.operands 2)

abbrev pub is_parameter_type : List Instruction → ℕ → Bool
is_parameter_type code t = is_data code t || is_pointer code t

-- a function has data or nothing as its result, and data and pointers as parameters
unfoldable pub function_type_fits : List Instruction → Instruction → Bool
function_type_fits code i =
    (is_void code (slice_index i.operands 1) || is_data code (slice_index i.operands 1))
    && list_all (λ t. is_parameter_type code t) (drop 2 i.operands)
