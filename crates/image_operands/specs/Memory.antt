-- The types of variables, and of what leads into them.
use Rattle.std.specs.Prelude.{ℕ, ◌+◌, Bool, true, false, ◌&&◌, not, cond, nat_eq, List, [], ◌∷◌, length, drop, Option, Some, None, is_some, slice_index, slice_get}
use Rattle.spirv_words.specs.declared.images.Instruction.{Instruction}
use Rattle.spirv_words.specs.Machine.{if_some}
use Rattle.image_lookup.specs.declared.sorts.Sort.{Sort}
use Rattle.image_lookup.specs.declared.sorts.Sort.TheVariants.{VectorType, ArrayType, RuntimeArrayType, StructType, PointerType, Number, Null}
use Rattle.image_lookup.specs.Lookups.{sort, operands, operand, is_value}
use Rattle.image_declarations.specs.Decorations.{mark, offset_of}
use Rattle.image_declarations.specs.Reach.{is_id}
use Rattle.image_declarations.specs.Holdings.{has_type, is_data, is_unbounded}
use Rattle.image_operands.specs.Operators.{is_int}

abbrev pub is_pointer_sort : Sort → Bool
is_pointer_sort PointerType = true
is_pointer_sort sort = false

abbrev pub is_struct_sort : Sort → Bool
is_struct_sort StructType = true
is_struct_sort sort = false

abbrev pub is_runtime_array_sort : Sort → Bool
is_runtime_array_sort RuntimeArrayType = true
is_runtime_array_sort sort = false

abbrev pub is_pointer : List Instruction → ℕ → Bool
is_pointer code t = is_pointer_sort (sort code t)

abbrev pub is_struct : List Instruction → ℕ → Bool
is_struct code t = is_struct_sort (sort code t)

abbrev pub is_runtime_array : List Instruction → ℕ → Bool
is_runtime_array code t = is_runtime_array_sort (sort code t)

-- ---- variables

-- an id has a decoration of this kind
abbrev pub has_mark : List Instruction → ℕ → ℕ → Bool
has_mark code id kind = is_some (mark code 0 id kind)

-- a struct whose one member, at Offset 0, is an array without length
unfoldable pub is_wrapping : List Instruction → ℕ → Bool
is_wrapping code t =
    is_struct code t && nat_eq (length (operands code t)) 2 && is_runtime_array code (operand code t 1) && nat_eq (offset_of code t 0) 0

-- a variable outside of functions: Input has its built-in value; Uniform and StorageBuffer have a set and a binding, and
-- are of a struct, which holds no array without length, or is the wrapper of one
unfoldable pub global_fits : List Instruction → ℕ → ℕ → ℕ → Bool
global_fits code class of variable =
    cond (nat_eq class 1) (has_mark code variable 11)
    (cond (nat_eq class 2) (has_mark code variable 34 && has_mark code variable 33 && is_struct code of && not (is_unbounded code of))
    (cond (nat_eq class 7) false
    (cond (nat_eq class 12) (has_mark code variable 34 && has_mark code variable 33 && is_wrapping code of) true)))

-- ---- loads and stores

-- what is loaded by a pointer of a class: words alone from buffers, else data
abbrev pub loads : List Instruction → ℕ → ℕ → Bool
loads code class of = cond (nat_eq class 2) (is_int code of) (cond (nat_eq class 12) (is_int code of) (is_data code of))

-- what is stored by a pointer of a class: data in variables of functions, and words in storage buffers
abbrev pub stores : List Instruction → ℕ → ℕ → Bool
stores code class of = cond (nat_eq class 7) (is_data code of) (cond (nat_eq class 12) (is_int code of) false)

unfoldable pub load_fits : List Instruction → Instruction → Bool
load_fits code i =
    let pointer = slice_index i.operands 2 in
    let pointers = operand code pointer 0 in
    is_value code pointer && is_pointer code pointers && nat_eq (operand code pointers 2) (slice_index i.operands 0)
    && loads code (operand code pointers 1) (slice_index i.operands 0)

unfoldable pub store_fits : List Instruction → Instruction → Bool
store_fits code i =
    let pointer = slice_index i.operands 0 in
    let pointers = operand code pointer 0 in
    is_value code pointer && is_pointer code pointers && has_type code (slice_index i.operands 1) (operand code pointers 2)
    && stores code (operand code pointers 1) (operand code pointers 2)

-- ---- paths

abbrev pub is_index : List Instruction → ℕ → Bool
is_index code id = is_value code id && is_int code (operand code id 0)

abbrev pub number_of : Sort → ℕ → Option ℕ
number_of Number n = Some n
number_of Null n = Some 0
number_of sort n = None

-- the number of a constant; a null is 0
abbrev pub constant_number : List Instruction → ℕ → Option ℕ
constant_number code id = number_of (sort code id) (operand code id 2)

-- the type of a struct's member; the first operand is the struct's own id
abbrev pub member_at : List Instruction → ℕ → ℕ → Option ℕ
member_at code t number = slice_get (operands code t) (number + 1)

abbrev pub part_by : List Instruction → Sort → ℕ → Option ℕ → Option ℕ
part_by code VectorType t number = Some (operand code t 1)
part_by code ArrayType t number = Some (operand code t 1)
part_by code RuntimeArrayType t number = Some (operand code t 1)
part_by code StructType t number = if_some number None (λ n. member_at code t n)
part_by code sort t number = None

-- the type to which an index leads from a type: that of a vector's components, of an array's elements, or of the member
-- that a constant numbers
unfoldable pub part_at : List Instruction → ℕ → ℕ → Option ℕ
part_at code t index = cond (is_index code index) (part_by code (sort code t) t (constant_number code index)) None

-- the type to which a path of indices leads
abbrev pub chain_end : List Instruction → ℕ → List ℕ → Option ℕ
chain_end code t [] = Some t
chain_end code t (i ∷ is) = if_some (part_at code t i) None (λ part. chain_end code part is)

-- the result is a pointer of the same class to where the path leads
unfoldable pub chain_fits : List Instruction → Instruction → Bool
chain_fits code i =
    let to = slice_index i.operands 0 in
    let pointer = slice_index i.operands 2 in
    let pointers = operand code pointer 0 in
    is_pointer code to && is_value code pointer && is_pointer code pointers && nat_eq (operand code to 1) (operand code pointers 1)
    && is_id (chain_end code (operand code pointers 2) (drop 3 i.operands)) (operand code to 2)
