-- Which types a buffer's wrapper reaches.
use Rattle.std.specs.Prelude.{◌≡◌, ℕ, ◌&&◌, ◌||◌, Bool, false, cond, nat_eq, List, [], ◌∷◌, drop, take, Option, Some, None, slice_index}
use Rattle.std.specs.List.{list_any}
use Rattle.std.specs.HashSet.{HashSet, contains}
use Rattle.spirv_words.specs.declared.opcodes.Op.{Op}
use Rattle.spirv_words.specs.declared.opcodes.Op.TheVariants.{Variable}
use Rattle.spirv_words.specs.declared.images.Instruction.{Instruction}
use Rattle.spirv_words.specs.Machine.{if_some}
use Rattle.image_lookup.specs.declared.sorts.Sort.{Sort}
use Rattle.image_lookup.specs.declared.sorts.Sort.TheVariants.{PointerType, ArrayType, RuntimeArrayType, StructType}
use Rattle.image_lookup.specs.Sorts.{sort_of}
use Rattle.image_lookup.specs.Lookups.{sort, operand}

abbrev pub pointed_by : Sort → ℕ → Option ℕ
pointed_by PointerType to = Some to
pointed_by sort to = None

-- the type that a type of pointers leads to
abbrev pub pointed : List Instruction → ℕ → Option ℕ
pointed code t = pointed_by (sort code t) (operand code t 2)

-- Uniform and StorageBuffer
abbrev pub is_buffer_class : ℕ → Bool
is_buffer_class class = nat_eq class 2 || nat_eq class 12

abbrev pub is_variable : Op → Bool → Option ℕ → Option ℕ
is_variable Variable counts type = cond counts type None
is_variable op counts type = None

-- the type of the buffer whose variable an instruction is
abbrev pub buffer_of : List Instruction → Instruction → Option ℕ
buffer_of code i = is_variable i.op (is_buffer_class (slice_index i.operands 2)) (pointed code (slice_index i.operands 0))

-- the same for a variable of class StorageBuffer alone
abbrev pub wrapper_of : List Instruction → Instruction → Option ℕ
wrapper_of code i = is_variable i.op (nat_eq (slice_index i.operands 2) 12) (pointed code (slice_index i.operands 0))

abbrev pub parts_behind : Sort → List ℕ → List ℕ
parts_behind ArrayType rest = take 1 rest
parts_behind RuntimeArrayType rest = take 1 rest
parts_behind StructType rest = rest
parts_behind sort rest = []

-- the types of an array's elements or of a struct's members
abbrev pub parts_of : Instruction → List ℕ
parts_of i = parts_behind (sort_of i.op) (drop 1 i.operands)

abbrev pub is_id : Option ℕ → ℕ → Bool
is_id None id = false
is_id (Some t) id = nat_eq t id

-- the types that an instruction reaches: the type of its buffer, or the parts of the type that it declares, if that type
-- is reached
abbrev pub adds : List Instruction → Instruction → (ℕ → Bool) → ℕ → Bool
adds code i is_reached id =
    if_some (buffer_of code i) (is_reached (slice_index i.operands 0) && list_any (nat_eq id) (parts_of i)) (λ t. nat_eq t id)

-- the types that the buffers of these instructions have, with their parts at any depth; a type stands behind its parts
abbrev pub reached : List Instruction → List Instruction → ℕ → Bool
reached code [] id = false
reached code (i ∷ is) id = adds code i (reached code is) id || reached code is id

-- whether a variable of class StorageBuffer points to a type
abbrev pub wraps : List Instruction → List Instruction → ℕ → Bool
wraps code [] id = false
wraps code (i ∷ is) id = is_id (wrapper_of code i) id || wraps code is id

abbrev pub Reaches : {S : Type 0} → HashSet ℕ S → List Instruction → List Instruction → Type 0
Reaches types code is = (id : ℕ) → contains nat_eq types id ≡ reached code is id

abbrev pub Wraps : {S : Type 0} → HashSet ℕ S → List Instruction → List Instruction → Type 0
Wraps types code is = (id : ℕ) → contains nat_eq types id ≡ wraps code is id
