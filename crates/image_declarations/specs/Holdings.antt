-- What the declarations of an image say of a type.
use Rattle.std.specs.Prelude.{ℕ, Bool, ◌&&◌, nat_eq, List}
use Rattle.spirv_words.specs.declared.images.Instruction.{Instruction}
use Rattle.image_lookup.specs.Lookups.{is_value, operand}
use Rattle.image_declarations.specs.Reach.{reached, wraps}
use Rattle.image_declarations.specs.Types.{type_facts}

-- a value of a type
abbrev pub has_type : List Instruction → ℕ → ℕ → Bool
has_type code id type = is_value code id && nat_eq (operand code id 0) type

-- bool, int, uint, or a vector, array or struct of these
abbrev pub is_data : List Instruction → ℕ → Bool
is_data code id = (type_facts code id).is_data

-- it has an array without length at any depth
abbrev pub is_unbounded : List Instruction → ℕ → Bool
is_unbounded code id = (type_facts code id).unbounded

-- the end of its last scalar in a buffer, in bytes
abbrev pub extent : List Instruction → ℕ → ℕ
extent code id = (type_facts code id).extent

-- a buffer has this type, at any depth
unfoldable pub is_reached : List Instruction → ℕ → Bool
is_reached code id = reached code code id

-- a variable of class StorageBuffer points to this type
unfoldable pub is_wrapper : List Instruction → ℕ → Bool
is_wrapper code id = wraps code code id
