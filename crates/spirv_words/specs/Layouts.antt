-- Which operands an opcode has, and which literals may stand there: those of the images of this profile.
use Rattle.std.specs.Prelude.{ℕ, zero, suc, ◌*◌, ◌/◌, ◌%◌, Bool, true, false, ◌&&◌, ◌||◌, nat_eq, nat_le, nat_lt, cond, List, [], ◌∷◌, Option, Some, None}
use Rattle.spirv_words.specs.declared.opcodes.Op.{Op}
use Rattle.spirv_words.specs.declared.opcodes.Op.TheVariants.{Name, MemoryModel, EntryPoint, ExecutionMode, Capability, TypeVoid, TypeBool, TypeInt, TypeVector, TypeArray, TypeRuntimeArray, TypeStruct, TypePointer, TypeFunction, ConstantTrue, ConstantFalse, Constant, ConstantNull, Function, FunctionParameter, FunctionEnd, FunctionCall, Variable, Load, Store, AccessChain, Decorate, MemberDecorate, CompositeConstruct, CompositeExtract, Bitcast, SNegate, IAdd, ISub, IMul, UDiv, SDiv, UMod, SRem, LogicalEqual, LogicalNotEqual, LogicalNot, IEqual, INotEqual, UGreaterThan, SGreaterThan, UGreaterThanEqual, SGreaterThanEqual, ULessThan, SLessThan, ULessThanEqual, SLessThanEqual, ShiftRightLogical, ShiftRightArithmetic, ShiftLeftLogical, BitwiseOr, BitwiseXor, BitwiseAnd, Not, LoopMerge, SelectionMerge, Label, Branch, BranchConditional, Return, ReturnValue, Unreachable}

-- ---- strings

-- how a word of a string goes on: by four bytes that are not 0, or by some bytes and then zeros, or by neither
pub data Quarter : Type 0 where
  Full : Quarter
  Last : Quarter
  Broken : Quarter

-- a byte of a word, of which the first is the lowest
abbrev pub byte_of : ℕ → ℕ → ℕ
byte_of w zero = w % 256
byte_of w (suc zero) = w / 256 % 256
byte_of w (suc (suc zero)) = w / 65536 % 256
byte_of w k = w / 16777216

-- the bytes below are not 0; is this one, and are all above it?
abbrev pub quarter : ℕ → Quarter
quarter w =
    cond (nat_eq (byte_of w 0) 0) (cond (nat_eq w 0) Last Broken)
    (cond (nat_eq (byte_of w 1) 0) (cond (nat_lt w 256) Last Broken)
    (cond (nat_eq (byte_of w 2) 0) (cond (nat_lt w 65536) Last Broken)
    (cond (nat_lt w 16777216) Last Full)))

abbrev pub string_rest : Quarter → List ℕ → Option (List ℕ) → Option (List ℕ)
string_rest Full rest further = further
string_rest Last rest further = Some rest
string_rest Broken rest further = None

-- the words after the string that stands first
abbrev pub after_string : List ℕ → Option (List ℕ)
after_string [] = None
after_string (w ∷ ws) = string_rest (quarter w) ws (after_string ws)

abbrev pub is_string : Option (List ℕ) → Bool
is_string (Some []) = true
is_string (Some (w ∷ ws)) = false
is_string None = false

abbrev pub has_string : Option (List ℕ) → Bool
has_string (Some ws) = true
has_string None = false

-- ---- literals

-- Input, Uniform, Function and StorageBuffer
abbrev pub is_storage_class : ℕ → Bool
is_storage_class l = nat_eq l 1 || nat_eq l 2 || nat_eq l 7 || nat_eq l 12

-- the sizes that a group may have
abbrev pub is_group : ℕ → ℕ → ℕ → Bool
is_group x y z = nat_le 1 x && nat_le x 1024 && nat_le 1 y && nat_le y 1024 && nat_le 1 z && nat_le z 64 && nat_le (x * y * z) 1024

-- Block and NonWritable
abbrev pub is_bare_decoration : ℕ → Bool
is_bare_decoration l = nat_eq l 2 || nat_eq l 24

-- ArrayStride, Binding and DescriptorSet with any word; BuiltIn with one of the four built-in values
abbrev pub is_decoration : ℕ → ℕ → Bool
is_decoration l word = nat_eq l 6 || nat_eq l 33 || nat_eq l 34 || (nat_eq l 11 && (nat_le 26 word && nat_le word 29))

-- ---- each opcode

-- unary and binary operators have a type, a result, and one or two ids; others are as they stand here
abbrev pub is_unary : List ℕ → Bool
is_unary (t ∷ r ∷ a ∷ []) = true
is_unary os = false

abbrev pub is_binary : List ℕ → Bool
is_binary (t ∷ r ∷ a ∷ b ∷ []) = true
is_binary os = false

abbrev pub fits : Op → List ℕ → Bool
fits Name (target ∷ text) = is_string (after_string text)
fits MemoryModel (addressing ∷ memory ∷ []) = nat_eq addressing 0 && nat_eq memory 1
fits EntryPoint (model ∷ function ∷ text) = nat_eq model 5 && has_string (after_string text)
fits ExecutionMode (function ∷ mode ∷ x ∷ y ∷ z ∷ []) = nat_eq mode 17 && is_group x y z
fits Capability (capability ∷ []) = nat_eq capability 1
fits TypeVoid (r ∷ []) = true
fits TypeBool (r ∷ []) = true
fits TypeInt (r ∷ width ∷ sign ∷ []) = nat_eq width 32 && nat_le sign 1
fits TypeVector (r ∷ t ∷ n ∷ []) = nat_le 2 n && nat_le n 4
fits TypeArray (r ∷ t ∷ n ∷ []) = true
fits TypeRuntimeArray (r ∷ t ∷ []) = true
fits TypeStruct (r ∷ ts) = true
fits TypePointer (r ∷ class ∷ t ∷ []) = is_storage_class class
fits TypeFunction (r ∷ t ∷ ts) = true
fits ConstantTrue (t ∷ r ∷ []) = true
fits ConstantFalse (t ∷ r ∷ []) = true
fits Constant (t ∷ r ∷ w ∷ []) = true
fits ConstantNull (t ∷ r ∷ []) = true
fits Function (t ∷ r ∷ control ∷ type ∷ []) = nat_eq control 0
fits FunctionParameter (t ∷ r ∷ []) = true
fits FunctionEnd [] = true
fits FunctionCall (t ∷ r ∷ f ∷ arguments) = true
fits Variable (t ∷ r ∷ class ∷ []) = is_storage_class class
fits Load (t ∷ r ∷ p ∷ []) = true
fits Store (p ∷ v ∷ []) = true
fits AccessChain (t ∷ r ∷ p ∷ indices) = true
fits Decorate (target ∷ l ∷ []) = is_bare_decoration l
fits Decorate (target ∷ l ∷ word ∷ []) = is_decoration l word
fits MemberDecorate (target ∷ member ∷ l ∷ offset ∷ []) = nat_eq l 35
fits CompositeConstruct (t ∷ r ∷ parts) = true
fits CompositeExtract (t ∷ r ∷ a ∷ path) = true
fits Bitcast os = is_unary os
fits SNegate os = is_unary os
fits LogicalNot os = is_unary os
fits Not os = is_unary os
fits IAdd os = is_binary os
fits ISub os = is_binary os
fits IMul os = is_binary os
fits UDiv os = is_binary os
fits SDiv os = is_binary os
fits UMod os = is_binary os
fits SRem os = is_binary os
fits LogicalEqual os = is_binary os
fits LogicalNotEqual os = is_binary os
fits IEqual os = is_binary os
fits INotEqual os = is_binary os
fits UGreaterThan os = is_binary os
fits SGreaterThan os = is_binary os
fits UGreaterThanEqual os = is_binary os
fits SGreaterThanEqual os = is_binary os
fits ULessThan os = is_binary os
fits SLessThan os = is_binary os
fits ULessThanEqual os = is_binary os
fits SLessThanEqual os = is_binary os
fits ShiftRightLogical os = is_binary os
fits ShiftRightArithmetic os = is_binary os
fits ShiftLeftLogical os = is_binary os
fits BitwiseOr os = is_binary os
fits BitwiseXor os = is_binary os
fits BitwiseAnd os = is_binary os
fits LoopMerge (merge ∷ continue ∷ control ∷ []) = nat_eq control 0
fits SelectionMerge (merge ∷ control ∷ []) = nat_eq control 0
fits Label (r ∷ []) = true
fits Branch (l ∷ []) = true
fits BranchConditional (c ∷ first ∷ second ∷ []) = true
fits Return [] = true
fits ReturnValue (v ∷ []) = true
fits Unreachable [] = true
fits op os = false
