-- Decorations with a literal: each once, and with a literal that may stand there.
use Rattle.std.specs.Prelude.{ℕ, ◌+◌, ◌%◌, max, Bool, true, false, ◌&&◌, ◌||◌, not, cond, nat_eq, nat_le, nat_lt, List, [], ◌∷◌, length, Option, Some, None, slice_index}
use Rattle.spirv_words.specs.declared.opcodes.Op.{Op}
use Rattle.spirv_words.specs.declared.opcodes.Op.TheVariants.{Decorate}
use Rattle.spirv_words.specs.declared.images.Instruction.{Instruction}
use Rattle.spirv_words.specs.Machine.{if_some}
use Rattle.image_lookup.specs.declared.sorts.Sort.{Sort}
use Rattle.image_lookup.specs.declared.sorts.Sort.TheVariants.{ArrayType, RuntimeArrayType, StructType, VectorType, Holder}
use Rattle.image_lookup.specs.Lookups.{sort, operands, operand}
use Rattle.image_declarations.specs.declared.decorations.Mark.{Mark}
use Rattle.image_declarations.specs.Decorations.{mark, member_mark, same_pair}
use Rattle.image_declarations.specs.Reach.{pointed, is_buffer_class}
use Rattle.image_declarations.specs.Holdings.{extent, is_reached}
use Rattle.image_operands.specs.Operators.{is_uint}

abbrev pub if_array : Sort → Bool → Bool
if_array ArrayType b = b
if_array RuntimeArrayType b = b
if_array sort b = false

abbrev pub if_struct : Sort → Bool → Bool
if_struct StructType b = b
if_struct sort b = false

abbrev pub if_triple : Sort → Bool → Bool
if_triple VectorType b = b
if_triple sort b = false

abbrev pub is_variable_sort : Sort → Bool
is_variable_sort Holder = true
is_variable_sort sort = false

-- an array that a buffer has
abbrev pub is_strided : List Instruction → ℕ → Bool
is_strided code id = if_array (sort code id) (is_reached code id)

-- a struct that a buffer has
abbrev pub has_offsets : List Instruction → ℕ → Bool
has_offsets code id = if_struct (sort code id) (is_reached code id)

abbrev pub is_variable : List Instruction → ℕ → Bool
is_variable code id = is_variable_sort (sort code id)

-- the variable of a buffer
abbrev pub is_buffer : List Instruction → ℕ → Bool
is_buffer code id = is_variable code id && is_buffer_class (operand code id 2)

abbrev pub is_input : List Instruction → ℕ → Bool
is_input code id = is_variable code id && nat_eq (operand code id 2) 1

-- the first decoration stands at this place
abbrev pub is_first : Option Mark → ℕ → Bool
is_first None place = false
is_first (Some m) place = nat_eq m.place place

-- a stride is a multiple of 4 above 0, and not below the end of an element
unfoldable pub stride_fits : List Instruction → ℕ → ℕ → Bool
stride_fits code id stride = nat_eq (stride % 4) 0 && not (nat_eq stride 0) && nat_le (extent code (operand code id 1)) stride

-- a vector of three uints
abbrev pub is_triple : List Instruction → ℕ → Bool
is_triple code t = if_triple (sort code t) (nat_eq (operand code t 2) 3 && is_uint code (operand code t 1))

-- LocalInvocationIndex is a uint, and the other built-in values are three
unfoldable pub built_in_fits : List Instruction → ℕ → ℕ → Bool
built_in_fits code variable built_in =
    if_some (pointed code (operand code variable 0)) false (λ of. cond (nat_eq built_in 29) (is_uint code of) (is_triple code of))

-- the stride of an array in a buffer, the built-in value of an Input, or the set and binding of a buffer stands once, and
-- fits; other decorations are free
unfoldable pub mark_fits : List Instruction → ℕ → Instruction → Bool
mark_fits code place i =
    let target = slice_index i.operands 0 in
    let kind = slice_index i.operands 1 in
    let literal = slice_index i.operands 2 in
    let first = is_first (mark code 0 target kind) place in
    cond (nat_eq kind 6 && is_strided code target) (first && stride_fits code target literal)
    (cond (nat_eq kind 11 && is_input code target) (first && built_in_fits code target literal)
    (cond ((nat_eq kind 33 || nat_eq kind 34) && is_buffer code target) first true))

-- the Offset of a member of a struct that a buffer has stands once, and is a multiple of 4
unfoldable pub member_mark_fits : List Instruction → ℕ → Instruction → Bool
member_mark_fits code place i =
    let target = slice_index i.operands 0 in
    let member = slice_index i.operands 1 in
    cond (has_offsets code target && nat_lt (member + 1) (length (operands code target)))
    (is_first (member_mark code 0 target member) place && nat_eq (slice_index i.operands 3 % 4) 0) true

-- ---- no two buffers have one set and binding

abbrev pub pair_at : Option Mark → Option Mark → ℕ → Option (ℕ × ℕ)
pair_at None binding place = None
pair_at (Some s) None place = None
pair_at (Some s) (Some b) place = cond (nat_eq (max s.place b.place) place) (Some (s.literal, b.literal)) None

abbrev pub if_decoration : Op → Bool → Option (ℕ × ℕ) → Option (ℕ × ℕ)
if_decoration Decorate b pair = cond b pair None
if_decoration op b pair = None

-- the set and the binding of a buffer, if the later of its two decorations stands at this place
unfoldable pub completed : List Instruction → ℕ → Instruction → Option (ℕ × ℕ)
completed code place i =
    let target = slice_index i.operands 0 in
    if_decoration i.op (is_buffer code target) (pair_at (mark code 0 target 34) (mark code 0 target 33) place)

abbrev pub is_pair : Option (ℕ × ℕ) → ℕ × ℕ → Bool
is_pair None q = false
is_pair (Some p) q = same_pair p q

-- some of these instructions completes a pair
abbrev pub is_taken : List Instruction → List Instruction → ℕ → ℕ × ℕ → Bool
is_taken code [] place pair = false
is_taken code (i ∷ is) place pair = is_pair (completed code place i) pair || is_taken code is (place + 1) pair

abbrev pub taken_in : (ℕ × ℕ → Bool) → Option (ℕ × ℕ) → Bool
taken_in taken None = false
taken_in taken (Some pair) = taken pair

-- an instruction completes a pair that one before it has completed
unfoldable pub clashes : List Instruction → List Instruction → ℕ → Instruction → Bool
clashes code before place i = taken_in (is_taken code before 0) (completed code place i)
