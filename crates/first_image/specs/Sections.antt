-- The sections that every image of the profile has, each beginning at an id.
use Rattle.std.specs.Prelude.{ℕ, ◌+◌, List, [], ◌∷◌}
use Rattle.spirv_words.specs.declared.opcodes.Op.TheVariants.{TypeVoid, TypeBool, TypeInt, TypeVector, TypePointer, ConstantTrue, ConstantFalse, Constant, ConstantNull, Capability, MemoryModel}
use Rattle.spirv_words.specs.declared.images.Instruction.{Instruction}
use Rattle.first_image.specs.Templates.{ins}

-- shaders, with logical addresses, in the memory model GLSL450
abbrev pub beginning : List Instruction
beginning = ins Capability (1 ∷ []) ∷ ins MemoryModel (0 ∷ 1 ∷ []) ∷ []

-- void 1, bool 2, int 3, uint 4, the vectors of two to four ints 5 to 7 and of two to four uints 8 to 10, true 11, false 12
abbrev pub plain_types : List Instruction
plain_types =
    ins TypeVoid (1 ∷ []) ∷ ins TypeBool (2 ∷ []) ∷ ins TypeInt (3 ∷ 32 ∷ 1 ∷ []) ∷ ins TypeInt (4 ∷ 32 ∷ 0 ∷ []) ∷
    ins TypeVector (5 ∷ 3 ∷ 2 ∷ []) ∷ ins TypeVector (6 ∷ 3 ∷ 3 ∷ []) ∷ ins TypeVector (7 ∷ 3 ∷ 4 ∷ []) ∷
    ins TypeVector (8 ∷ 4 ∷ 2 ∷ []) ∷ ins TypeVector (9 ∷ 4 ∷ 3 ∷ []) ∷ ins TypeVector (10 ∷ 4 ∷ 4 ∷ []) ∷
    ins ConstantTrue (2 ∷ 11 ∷ []) ∷ ins ConstantFalse (2 ∷ 12 ∷ []) ∷ []

-- uint constants
abbrev pub constants_code : ℕ → List ℕ → List Instruction
constants_code id [] = []
constants_code id (k ∷ ks) = ins Constant (4 ∷ id ∷ k ∷ []) ∷ constants_code (id + 1) ks

-- pointers: to bool, int, uint and the vectors as variables of a function; to int and uint in a buffer that is written or
-- read, and in constant data; to three uints and a uint as built-in values
abbrev pub pointer_types : ℕ → List Instruction
pointer_types n =
    ins TypePointer (n ∷ 7 ∷ 2 ∷ []) ∷ ins TypePointer ((n + 1) ∷ 7 ∷ 3 ∷ []) ∷ ins TypePointer ((n + 2) ∷ 7 ∷ 4 ∷ []) ∷
    ins TypePointer ((n + 3) ∷ 7 ∷ 5 ∷ []) ∷ ins TypePointer ((n + 4) ∷ 7 ∷ 6 ∷ []) ∷ ins TypePointer ((n + 5) ∷ 7 ∷ 7 ∷ []) ∷
    ins TypePointer ((n + 6) ∷ 7 ∷ 8 ∷ []) ∷ ins TypePointer ((n + 7) ∷ 7 ∷ 9 ∷ []) ∷ ins TypePointer ((n + 8) ∷ 7 ∷ 10 ∷ []) ∷
    ins TypePointer ((n + 9) ∷ 12 ∷ 3 ∷ []) ∷ ins TypePointer ((n + 10) ∷ 12 ∷ 4 ∷ []) ∷
    ins TypePointer ((n + 11) ∷ 2 ∷ 3 ∷ []) ∷ ins TypePointer ((n + 12) ∷ 2 ∷ 4 ∷ []) ∷
    ins TypePointer ((n + 13) ∷ 1 ∷ 9 ∷ []) ∷ ins TypePointer ((n + 14) ∷ 1 ∷ 4 ∷ []) ∷ []

-- the nulls of bool, int, uint and the vectors
abbrev pub nulls : ℕ → List Instruction
nulls k =
    ins ConstantNull (2 ∷ k ∷ []) ∷ ins ConstantNull (3 ∷ (k + 1) ∷ []) ∷ ins ConstantNull (4 ∷ (k + 2) ∷ []) ∷
    ins ConstantNull (5 ∷ (k + 3) ∷ []) ∷ ins ConstantNull (6 ∷ (k + 4) ∷ []) ∷ ins ConstantNull (7 ∷ (k + 5) ∷ []) ∷
    ins ConstantNull (8 ∷ (k + 6) ∷ []) ∷ ins ConstantNull (9 ∷ (k + 7) ∷ []) ∷ ins ConstantNull (10 ∷ (k + 8) ∷ []) ∷ []
