-- What the ids of an image stand for, and where: each is defined once, and used where its definition holds (SPIR-V 1.5,
-- section 2.16.1, in the form of this profile).
use Rattle.std.specs.Prelude.{◌≡◌, ℕ, suc, ◌+◌, ◌<◌, Bool, true, false, IsTrue, ◌&&◌, not, nat_eq, nat_lt, cond, List, length, slice_get, slice_index, Option, Some, None}
use Rattle.std.specs.Option.{option_map}
use Rattle.spirv_words.specs.declared.opcodes.Op.{Op}
use Rattle.spirv_words.specs.declared.opcodes.Op.TheVariants.{TypeVoid, TypeBool, TypeInt, TypeVector, TypeArray, TypeRuntimeArray, TypeStruct, TypePointer, TypeFunction, ConstantTrue, ConstantFalse, Constant, ConstantNull, Function, FunctionParameter, Variable, Label}
use Rattle.spirv_words.specs.declared.images.Instruction.{Instruction}
use Rattle.spirv_words.specs.declared.images.Image.{Image}
use Rattle.spirv_words.specs.Machine.{place_of}
use Rattle.image_places.specs.declared.roles.Role.{Role}
use Rattle.image_places.specs.declared.roles.Role.TheVariants.{Literal, Result, Use, Mention}
use Rattle.image_places.specs.Roles.{text_end, role_of}
use Rattle.image_places.specs.Places.{word_of, op_at, function_of, block_of}
use Rattle.image_rules.specs.declared.table.Scope.{Scope}
use Rattle.image_rules.specs.declared.table.Scope.TheVariants.{Everywhere, After, InFunction, InBlock}
use Rattle.image_rules.specs.declared.table.Definition.{Definition}

-- ---- how far a definition holds

-- by its opcode, its number, and the Function and the Label under which it stands. Types and constants hold after they are
-- defined; functions, labels, and variables outside functions hold everywhere; parameters and other variables hold in their
-- function; all other results hold after it in their block
abbrev pub scope_of : Op → ℕ → ℕ → ℕ → Scope
scope_of TypeVoid here function block = After here
scope_of TypeBool here function block = After here
scope_of TypeInt here function block = After here
scope_of TypeVector here function block = After here
scope_of TypeArray here function block = After here
scope_of TypeRuntimeArray here function block = After here
scope_of TypeStruct here function block = After here
scope_of TypePointer here function block = After here
scope_of TypeFunction here function block = After here
scope_of ConstantTrue here function block = After here
scope_of ConstantFalse here function block = After here
scope_of Constant here function block = After here
scope_of ConstantNull here function block = After here
scope_of Function here function block = Everywhere
scope_of Label here function block = Everywhere
scope_of FunctionParameter here function block = InFunction function
scope_of Variable here function block = cond (nat_eq function 0) Everywhere (InFunction function)
scope_of op here function block = InBlock block here

-- does it hold at the instruction with this number, which stands under this Function and this Label
abbrev pub holds : Scope → ℕ → ℕ → ℕ → Bool
holds Everywhere here function block = true
holds (After place) here function block = nat_lt place here
holds (InFunction own) here function block = nat_eq own function
holds (InBlock own place) here function block = nat_eq own block && nat_lt place here

-- ---- definitions

abbrev pub scope_at : Option Op → ℕ → ℕ → ℕ → Scope
scope_at None here function block = Everywhere
scope_at (Some op) here function block = scope_of op here function block

-- the definition that an instruction is. A Function and a Label stand under themselves
abbrev pub definition_at : List Instruction → ℕ → Definition
definition_at is k = record { number = k; scope = scope_at (op_at is k) k (function_of is (suc k)) (block_of is (suc k)) }

-- the first definition of an id
abbrev pub definition : List Instruction → ℕ → Option Definition
definition is id = option_map (definition_at is) (place_of is id 0)

-- ---- what is wrong with an id

-- in this role at the instruction with this number, which stands under this Function and this Label, with its definition
abbrev pub suits : Role → Option Definition → ℕ → ℕ → ℕ → Bool
suits Literal definition here function block = true
suits Result None here function block = false
suits Result (Some d) here function block = nat_eq d.number here
suits Use None here function block = false
suits Use (Some d) here function block = holds d.scope here function block
suits Mention None here function block = false
suits Mention (Some d) here function block = true

abbrev pub in_bound : Role → ℕ → ℕ → Bool
in_bound Literal bound id = true
in_bound role bound id = nat_lt 0 id && nat_lt id bound

-- such an id is 0, not below the bound, not defined, defined before, or does not hold here
abbrev pub is_wrong_id : ℕ → Option Definition → Role → ℕ → ℕ → ℕ → ℕ → Bool
is_wrong_id bound definition role id here function block = not (in_bound role bound id && suits role definition here function block)

abbrev pub role_in : Instruction → ℕ → Role
role_in i j = role_of i.op (text_end i.op i.operands) j

-- an operand of an instruction is a wrong id, where ids have these definitions
abbrev pub is_wrong_operand : (ℕ → Option Definition) → ℕ → Instruction → ℕ → ℕ → ℕ → ℕ → Bool
is_wrong_operand defined bound i here function block j =
    is_wrong_id bound (defined (slice_index i.operands j)) (role_in i j) (slice_index i.operands j) here function block

-- the same for the instruction with this number
abbrev pub is_wrong_in : Image → Instruction → ℕ → ℕ → Bool
is_wrong_in image i k j =
    is_wrong_operand (definition image.instructions) image.bound i k (function_of image.instructions (suc k)) (block_of image.instructions (suc k)) j

-- the word at a place is a wrong id
pub record WrongId (image : Image) (place : ℕ) : Type 0 where
  pub number : ℕ
  pub operand : ℕ
  pub instruction : Instruction
  pub stands : slice_get image.instructions number ≡ Some instruction
  pub within : operand < length instruction.operands
  pub place_is : place ≡ word_of image.instructions number + suc operand
  pub is_wrong : IsTrue (is_wrong_in image instruction number operand)

-- ---- words of the code

-- the first of these, else the second
abbrev pub or_second : {A : Type 0} → Option A → Option A → Option A
or_second None second = second
or_second (Some a) second = Some a

-- the first number below a limit at which a test holds, or none if it holds at none
abbrev pub IsFirstBelow : (ℕ → Bool) → ℕ → Option ℕ → Type 0
IsFirstBelow test limit None = (j : ℕ) → j < limit → test j ≡ false
IsFirstBelow test limit (Some k) = (k < limit) × IsTrue (test k) × ((j : ℕ) → j < k → test j ≡ false)
