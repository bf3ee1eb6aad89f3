-- The order of the instructions of an image (SPIR-V 1.5, section 2.4, cut to this profile).
use Rattle.std.specs.Prelude.{ℕ, zero, suc, ◌+◌, Bool, true, ◌&&◌, ◌||◌, not, nat_eq, nat_le, nat_lt, cond, List, Option, Some, None}
use Rattle.spirv_words.specs.declared.opcodes.Op.{Op}
use Rattle.spirv_words.specs.declared.opcodes.Op.TheVariants.{Name, MemoryModel, EntryPoint, ExecutionMode, Capability, TypeVoid, TypeBool, TypeInt, TypeVector, TypeArray, TypeRuntimeArray, TypeStruct, TypePointer, TypeFunction, ConstantTrue, ConstantFalse, Constant, ConstantNull, Function, FunctionParameter, Variable, Decorate, MemberDecorate, Label}
use Rattle.spirv_words.specs.declared.images.Instruction.{Instruction}
use Rattle.spirv_words.specs.declared.images.Image.{Image}
use Rattle.image_places.specs.Places.{op_at, function_of, block_of, FaultAt}

-- ---- sections

-- the section in which an opcode stands outside functions, 0 if it stands in functions alone. Each of the first four holds
-- one instruction, and the later ones any number. The last one has the functions
abbrev pub section : Op → ℕ
section Capability = 1
section MemoryModel = 2
section EntryPoint = 3
section ExecutionMode = 4
section Name = 5
section Decorate = 6
section MemberDecorate = 6
section TypeVoid = 7
section TypeBool = 7
section TypeInt = 7
section TypeVector = 7
section ConstantTrue = 8
section ConstantFalse = 8
section Constant = 8
section TypeArray = 9
section TypeRuntimeArray = 9
section TypeStruct = 9
section TypePointer = 10
section TypeFunction = 11
section ConstantNull = 12
section Variable = 13
section Function = 14
section op = 0

abbrev pub section_at : Option Op → ℕ
section_at None = 0
section_at (Some op) = section op

-- the section of the last of the first so many instructions that stands outside functions
abbrev pub reached : List Instruction → ℕ → ℕ
reached is zero = 0
reached is (suc k) = cond (nat_eq (function_of is k) 0) (section_at (op_at is k)) (reached is k)

-- may this section follow that one, which was reached
abbrev pub may_follow : ℕ → ℕ → Bool
may_follow reached next = cond (nat_le next 4) (nat_eq next (reached + 1)) (nat_le 4 reached && nat_le reached next)

-- ---- functions

-- may an opcode stand in a function, after so many Labels or none: parameters before the first Label, and all else but Labels
-- after it
abbrev pub may_stand : Op → ℕ → Bool
may_stand Label block = true
may_stand FunctionParameter block = nat_eq block 0
may_stand Variable block = not (nat_eq block 0)
may_stand op block = nat_eq (section op) 0 && not (nat_eq block 0)

-- ---- what is out of order

-- an opcode, or the end, after what is open and was reached
abbrev pub is_misplaced : Option Op → ℕ → ℕ → ℕ → Bool
is_misplaced None function block reached = not (nat_eq function 0) || nat_lt reached 4
is_misplaced (Some op) function block reached = cond (nat_eq function 0) (not (may_follow reached (section op))) (not (may_stand op block))

-- the instruction with this number, or the end of the image, is out of order
abbrev pub out_of_order : List Instruction → ℕ → Bool
out_of_order is k = is_misplaced (op_at is k) (function_of is k) (block_of is k) (reached is k)

abbrev pub OutOfOrder : Image → ℕ → Type 0
OutOfOrder image = FaultAt image.instructions (out_of_order image.instructions)
