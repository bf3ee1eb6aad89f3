-- Which word of an instruction is wrong, where its operands do not fit: the first word for their number and for a string,
-- else the first literal that may not stand there. An instruction's first word has the number 0, and its operands follow.
use Rattle.std.specs.Prelude.{ℕ, ◌*◌, Bool, ◌&&◌, ◌||◌, nat_eq, nat_le, cond, List, length, drop, slice_index, Option, Some, None}
use Rattle.spirv_words.specs.declared.opcodes.Op.{Op}
use Rattle.spirv_words.specs.declared.opcodes.Op.TheVariants.{Name, MemoryModel, EntryPoint, ExecutionMode, Capability, TypeVoid, TypeBool, TypeInt, TypeVector, TypeArray, TypeRuntimeArray, TypeStruct, TypePointer, TypeFunction, ConstantTrue, ConstantFalse, Constant, ConstantNull, Function, FunctionParameter, FunctionEnd, FunctionCall, Variable, Load, Store, AccessChain, Decorate, MemberDecorate, CompositeConstruct, CompositeExtract, Bitcast, SNegate, IAdd, ISub, IMul, UDiv, SDiv, UMod, SRem, LogicalEqual, LogicalNotEqual, LogicalNot, IEqual, INotEqual, UGreaterThan, SGreaterThan, UGreaterThanEqual, SGreaterThanEqual, ULessThan, SLessThan, ULessThanEqual, SLessThanEqual, ShiftRightLogical, ShiftRightArithmetic, ShiftLeftLogical, BitwiseOr, BitwiseXor, BitwiseAnd, Not, LoopMerge, SelectionMerge, Label, Branch, BranchConditional, Return, ReturnValue, Unreachable}
use Rattle.spirv_words.specs.declared.layouts.Layout.{Layout}
use Rattle.spirv_words.specs.declared.layouts.Layout.TheVariants.{Exactly, AtLeast, EndsInString, HasString, OfDecoration}
use Rattle.spirv_words.specs.declared.layouts.Ending.{Ending}
use Rattle.spirv_words.specs.declared.layouts.Ending.TheVariants.{GoesOn, Ends}
use Rattle.spirv_words.specs.declared.layouts.Ending.TheVariants as endings
use Rattle.spirv_words.specs.Layouts.{Quarter, Full, Last, Broken, after_string, is_string, has_string, is_storage_class, is_bare_decoration}

-- ---- numbers of operands, and strings

abbrev pub ending_of : Quarter → Ending
ending_of Full = GoesOn
ending_of Last = Ends
ending_of Broken = endings.Broken

abbrev pub layout_of : Op → Layout
layout_of Name = EndsInString 1
layout_of MemoryModel = Exactly 2
layout_of EntryPoint = HasString 2
layout_of ExecutionMode = Exactly 5
layout_of Capability = Exactly 1
layout_of TypeVoid = Exactly 1
layout_of TypeBool = Exactly 1
layout_of TypeInt = Exactly 3
layout_of TypeVector = Exactly 3
layout_of TypeArray = Exactly 3
layout_of TypeRuntimeArray = Exactly 2
layout_of TypeStruct = AtLeast 1
layout_of TypePointer = Exactly 3
layout_of TypeFunction = AtLeast 2
layout_of ConstantTrue = Exactly 2
layout_of ConstantFalse = Exactly 2
layout_of Constant = Exactly 3
layout_of ConstantNull = Exactly 2
layout_of Function = Exactly 4
layout_of FunctionParameter = Exactly 2
layout_of FunctionEnd = Exactly 0
layout_of FunctionCall = AtLeast 3
layout_of Variable = Exactly 3
layout_of Load = Exactly 3
layout_of Store = Exactly 2
layout_of AccessChain = AtLeast 3
layout_of Decorate = OfDecoration
layout_of MemberDecorate = Exactly 4
layout_of CompositeConstruct = AtLeast 2
layout_of CompositeExtract = AtLeast 3
layout_of Bitcast = Exactly 3
layout_of SNegate = Exactly 3
layout_of LogicalNot = Exactly 3
layout_of Not = Exactly 3
layout_of IAdd = Exactly 4
layout_of ISub = Exactly 4
layout_of IMul = Exactly 4
layout_of UDiv = Exactly 4
layout_of SDiv = Exactly 4
layout_of UMod = Exactly 4
layout_of SRem = Exactly 4
layout_of LogicalEqual = Exactly 4
layout_of LogicalNotEqual = Exactly 4
layout_of IEqual = Exactly 4
layout_of INotEqual = Exactly 4
layout_of UGreaterThan = Exactly 4
layout_of SGreaterThan = Exactly 4
layout_of UGreaterThanEqual = Exactly 4
layout_of SGreaterThanEqual = Exactly 4
layout_of ULessThan = Exactly 4
layout_of SLessThan = Exactly 4
layout_of ULessThanEqual = Exactly 4
layout_of SLessThanEqual = Exactly 4
layout_of ShiftRightLogical = Exactly 4
layout_of ShiftRightArithmetic = Exactly 4
layout_of ShiftLeftLogical = Exactly 4
layout_of BitwiseOr = Exactly 4
layout_of BitwiseXor = Exactly 4
layout_of BitwiseAnd = Exactly 4
layout_of LoopMerge = Exactly 3
layout_of SelectionMerge = Exactly 2
layout_of Label = Exactly 1
layout_of Branch = Exactly 1
layout_of BranchConditional = Exactly 3
layout_of Return = Exactly 0
layout_of ReturnValue = Exactly 1
layout_of Unreachable = Exactly 0

-- the operands are so many, and their string is one
abbrev pub meets : Layout → List ℕ → Bool
meets (Exactly n) os = nat_eq (length os) n
meets (AtLeast n) os = nat_le n (length os)
meets (EndsInString n) os = nat_le n (length os) && is_string (after_string (drop n os))
meets (HasString n) os = nat_le n (length os) && has_string (after_string (drop n os))
meets OfDecoration os = nat_le 2 (length os) && nat_eq (length os) (cond (is_bare_decoration (slice_index os 1)) 2 3)

-- ---- literals

-- the number of this word, if it is wrong, else what comes later
abbrev pub unless : Bool → ℕ → Option ℕ → Option ℕ
unless right word later = cond right later (Some word)

-- the first size with which no group can have the sizes so far
abbrev pub wrong_size : ℕ → ℕ → ℕ → Option ℕ
wrong_size x y z =
    unless (nat_le 1 x && nat_le x 1024) 3
    (unless (nat_le 1 y && nat_le y 1024 && nat_le (x * y) 1024) 4
    (unless (nat_le 1 z && nat_le z 64 && nat_le (x * y * z) 1024) 5 None))

-- a decoration, and its literal
abbrev pub wrong_decoration : ℕ → ℕ → Option ℕ
wrong_decoration l word =
    cond (is_bare_decoration l || nat_eq l 6 || nat_eq l 33 || nat_eq l 34) None
    (unless (nat_eq l 11) 2 (unless (nat_le 26 word && nat_le word 29) 3 None))

abbrev pub wrong_literal : Op → List ℕ → Option ℕ
wrong_literal MemoryModel os = unless (nat_eq (slice_index os 0) 0) 1 (unless (nat_eq (slice_index os 1) 1) 2 None)
wrong_literal EntryPoint os = unless (nat_eq (slice_index os 0) 5) 1 None
wrong_literal ExecutionMode os =
    unless (nat_eq (slice_index os 1) 17) 2 (wrong_size (slice_index os 2) (slice_index os 3) (slice_index os 4))
wrong_literal Capability os = unless (nat_eq (slice_index os 0) 1) 1 None
wrong_literal TypeInt os = unless (nat_eq (slice_index os 1) 32) 2 (unless (nat_le (slice_index os 2) 1) 3 None)
wrong_literal TypeVector os = unless (nat_le 2 (slice_index os 2) && nat_le (slice_index os 2) 4) 3 None
wrong_literal TypePointer os = unless (is_storage_class (slice_index os 1)) 2 None
wrong_literal Function os = unless (nat_eq (slice_index os 2) 0) 3 None
wrong_literal Variable os = unless (is_storage_class (slice_index os 2)) 3 None
wrong_literal Decorate os = wrong_decoration (slice_index os 1) (slice_index os 2)
wrong_literal MemberDecorate os = unless (nat_eq (slice_index os 2) 35) 3 None
wrong_literal LoopMerge os = unless (nat_eq (slice_index os 2) 0) 3 None
wrong_literal SelectionMerge os = unless (nat_eq (slice_index os 1) 0) 2 None
wrong_literal op os = None

-- the first word that is wrong with these operands
abbrev pub misfit : Op → List ℕ → Option ℕ
misfit op os = cond (meets (layout_of op) os) (wrong_literal op os) (Some 0)
