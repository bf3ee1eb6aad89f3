-- What each operand of an instruction is: a result's id, another id, or a literal word.
use Rattle.std.specs.Prelude.{ℕ, suc, ◌+◌, Bool, ◌&&◌, not, nat_eq, nat_le, nat_lt, cond, List, [], ◌∷◌, drop, slice_index_or}
use Rattle.spirv_words.specs.declared.opcodes.Op.{Op}
use Rattle.spirv_words.specs.declared.opcodes.Op.TheVariants.{Name, MemoryModel, EntryPoint, ExecutionMode, Capability, TypeVoid, TypeBool, TypeInt, TypeVector, TypeArray, TypeRuntimeArray, TypeStruct, TypePointer, TypeFunction, ConstantTrue, ConstantFalse, Constant, ConstantNull, Function, FunctionParameter, FunctionEnd, Variable, Store, Decorate, MemberDecorate, CompositeExtract, LoopMerge, SelectionMerge, Label, Branch, BranchConditional, Return, ReturnValue, Unreachable}
use Rattle.spirv_words.specs.Layouts.{byte_of}
use Rattle.image_places.specs.declared.roles.Role.{Role}
use Rattle.image_places.specs.declared.roles.Role.TheVariants.{Literal, Result, Use, Mention}

-- the roles of an opcode's first operands
abbrev pub first_roles : Op → List Role
first_roles Name = Mention ∷ []
first_roles MemoryModel = []
first_roles EntryPoint = Literal ∷ Mention ∷ []
first_roles ExecutionMode = Mention ∷ []
first_roles Capability = []
first_roles TypeVoid = Result ∷ []
first_roles TypeBool = Result ∷ []
first_roles TypeInt = Result ∷ []
first_roles TypeVector = Result ∷ Use ∷ []
first_roles TypeArray = Result ∷ []
first_roles TypeRuntimeArray = Result ∷ []
first_roles TypeStruct = Result ∷ []
first_roles TypePointer = Result ∷ Literal ∷ []
first_roles TypeFunction = Result ∷ []
first_roles Function = Use ∷ Result ∷ Literal ∷ []
first_roles FunctionEnd = []
first_roles Store = []
first_roles Decorate = Mention ∷ []
first_roles MemberDecorate = Mention ∷ []
first_roles CompositeExtract = Use ∷ Result ∷ Use ∷ []
first_roles LoopMerge = Use ∷ Use ∷ []
first_roles SelectionMerge = Use ∷ []
first_roles Label = Result ∷ []
first_roles Branch = []
first_roles BranchConditional = []
first_roles Return = []
first_roles ReturnValue = []
first_roles Unreachable = []
first_roles op = Use ∷ Result ∷ []

-- the role of all operands after those
abbrev pub later_role : Op → Role
later_role Name = Literal
later_role MemoryModel = Literal
later_role EntryPoint = Mention
later_role ExecutionMode = Literal
later_role Capability = Literal
later_role TypeVoid = Literal
later_role TypeBool = Literal
later_role TypeInt = Literal
later_role TypeVector = Literal
later_role ConstantTrue = Literal
later_role ConstantFalse = Literal
later_role Constant = Literal
later_role ConstantNull = Literal
later_role FunctionParameter = Literal
later_role FunctionEnd = Literal
later_role Variable = Literal
later_role Decorate = Literal
later_role MemberDecorate = Literal
later_role CompositeExtract = Literal
later_role LoopMerge = Literal
later_role SelectionMerge = Literal
later_role Label = Literal
later_role Return = Literal
later_role Unreachable = Literal
later_role op = Use

-- ---- the text of an EntryPoint

-- a word of a string with no 0 among its four bytes
abbrev pub goes_on : ℕ → Bool
goes_on w = not (nat_eq (byte_of w 0) 0) && not (nat_eq (byte_of w 1) 0) && not (nat_eq (byte_of w 2) 0) && not (nat_eq (byte_of w 3) 0)

-- the number of words of the string that stands first
abbrev pub text_words : List ℕ → ℕ
text_words [] = 0
text_words (w ∷ ws) = cond (goes_on w) (suc (text_words ws)) 1

-- the number of operands of an EntryPoint up to the end of its name
abbrev pub text_end : Op → List ℕ → ℕ
text_end EntryPoint os = 2 + text_words (drop 2 os)
text_end op os = 0

-- the role of an operand by its number from 0 on, where an EntryPoint's name ends there
abbrev pub role_of : Op → ℕ → ℕ → Role
role_of op end j = cond (nat_le 2 j && nat_lt j end) Literal (slice_index_or (first_roles op) j (later_role op))
