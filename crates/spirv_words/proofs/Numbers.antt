-- Each opcode has a number of its own, which 16 bits can tell.
use Rattle.std.proofs.Common.{◌≡◌, ◌≢◌, ◌⊎◌, inl, inr, ℕ, ◌<◌, Bool, true, false, nat_eq, cond, List, [], ◌∷◌, Option, Some, None, refl, sym, ap, ◌∙◌, lit<}
use Rattle.std.proofs.lemmas.Bool.{eqb-true}
use Rattle.spirv_words.specs.declared.opcodes.Op.{Op}
use Rattle.spirv_words.specs.declared.opcodes.Op.TheVariants.{Name, MemoryModel, EntryPoint, ExecutionMode, Capability, TypeVoid, TypeBool, TypeInt, TypeVector, TypeArray, TypeRuntimeArray, TypeStruct, TypePointer, TypeFunction, ConstantTrue, ConstantFalse, Constant, ConstantNull, Function, FunctionParameter, FunctionEnd, FunctionCall, Variable, Load, Store, AccessChain, Decorate, MemberDecorate, CompositeConstruct, CompositeExtract, Bitcast, SNegate, IAdd, ISub, IMul, UDiv, SDiv, UMod, SRem, LogicalEqual, LogicalNotEqual, LogicalNot, IEqual, INotEqual, UGreaterThan, SGreaterThan, UGreaterThanEqual, SGreaterThanEqual, ULessThan, SLessThan, ULessThanEqual, SLessThanEqual, ShiftRightLogical, ShiftRightArithmetic, ShiftLeftLogical, BitwiseOr, BitwiseXor, BitwiseAnd, Not, LoopMerge, SelectionMerge, Label, Branch, BranchConditional, Return, ReturnValue, Unreachable}
use Rattle.spirv_words.specs.Opcodes.{op_number}

abbrev every : List Op
every = Name ∷ MemoryModel ∷ EntryPoint ∷ ExecutionMode ∷ Capability ∷ TypeVoid ∷ TypeBool ∷ TypeInt ∷ TypeVector ∷ TypeArray ∷ TypeRuntimeArray ∷ TypeStruct ∷ TypePointer ∷ TypeFunction ∷ ConstantTrue ∷ ConstantFalse ∷ Constant ∷ ConstantNull ∷ Function ∷ FunctionParameter ∷ FunctionEnd ∷ FunctionCall ∷ Variable ∷ Load ∷ Store ∷ AccessChain ∷ Decorate ∷ MemberDecorate ∷ CompositeConstruct ∷ CompositeExtract ∷ Bitcast ∷ SNegate ∷ IAdd ∷ ISub ∷ IMul ∷ UDiv ∷ SDiv ∷ UMod ∷ SRem ∷ LogicalEqual ∷ LogicalNotEqual ∷ LogicalNot ∷ IEqual ∷ INotEqual ∷ UGreaterThan ∷ SGreaterThan ∷ UGreaterThanEqual ∷ SGreaterThanEqual ∷ ULessThan ∷ SLessThan ∷ ULessThanEqual ∷ SLessThanEqual ∷ ShiftRightLogical ∷ ShiftRightArithmetic ∷ ShiftLeftLogical ∷ BitwiseOr ∷ BitwiseXor ∷ BitwiseAnd ∷ Not ∷ LoopMerge ∷ SelectionMerge ∷ Label ∷ Branch ∷ BranchConditional ∷ Return ∷ ReturnValue ∷ Unreachable ∷ []

-- the first opcode of a number
abbrev first_of : ℕ → List Op → Option Op
first_of n [] = None
first_of n (op ∷ ops) = cond (nat_eq (op_number op) n) (Some op) (first_of n ops)

found : (op : Op) → first_of (op_number op) every ≡ Some op
found Name = refl
found MemoryModel = refl
found EntryPoint = refl
found ExecutionMode = refl
found Capability = refl
found TypeVoid = refl
found TypeBool = refl
found TypeInt = refl
found TypeVector = refl
found TypeArray = refl
found TypeRuntimeArray = refl
found TypeStruct = refl
found TypePointer = refl
found TypeFunction = refl
found ConstantTrue = refl
found ConstantFalse = refl
found Constant = refl
found ConstantNull = refl
found Function = refl
found FunctionParameter = refl
found FunctionEnd = refl
found FunctionCall = refl
found Variable = refl
found Load = refl
found Store = refl
found AccessChain = refl
found Decorate = refl
found MemberDecorate = refl
found CompositeConstruct = refl
found CompositeExtract = refl
found Bitcast = refl
found SNegate = refl
found IAdd = refl
found ISub = refl
found IMul = refl
found UDiv = refl
found SDiv = refl
found UMod = refl
found SRem = refl
found LogicalEqual = refl
found LogicalNotEqual = refl
found LogicalNot = refl
found IEqual = refl
found INotEqual = refl
found UGreaterThan = refl
found SGreaterThan = refl
found UGreaterThanEqual = refl
found SGreaterThanEqual = refl
found ULessThan = refl
found SLessThan = refl
found ULessThanEqual = refl
found SLessThanEqual = refl
found ShiftRightLogical = refl
found ShiftRightArithmetic = refl
found ShiftLeftLogical = refl
found BitwiseOr = refl
found BitwiseXor = refl
found BitwiseAnd = refl
found Not = refl
found LoopMerge = refl
found SelectionMerge = refl
found Label = refl
found Branch = refl
found BranchConditional = refl
found Return = refl
found ReturnValue = refl
found Unreachable = refl

pub op_number-small : (op : Op) → op_number op < 65536
op_number-small Name = lit< tt
op_number-small MemoryModel = lit< tt
op_number-small EntryPoint = lit< tt
op_number-small ExecutionMode = lit< tt
op_number-small Capability = lit< tt
op_number-small TypeVoid = lit< tt
op_number-small TypeBool = lit< tt
op_number-small TypeInt = lit< tt
op_number-small TypeVector = lit< tt
op_number-small TypeArray = lit< tt
op_number-small TypeRuntimeArray = lit< tt
op_number-small TypeStruct = lit< tt
op_number-small TypePointer = lit< tt
op_number-small TypeFunction = lit< tt
op_number-small ConstantTrue = lit< tt
op_number-small ConstantFalse = lit< tt
op_number-small Constant = lit< tt
op_number-small ConstantNull = lit< tt
op_number-small Function = lit< tt
op_number-small FunctionParameter = lit< tt
op_number-small FunctionEnd = lit< tt
op_number-small FunctionCall = lit< tt
op_number-small Variable = lit< tt
op_number-small Load = lit< tt
op_number-small Store = lit< tt
op_number-small AccessChain = lit< tt
op_number-small Decorate = lit< tt
op_number-small MemberDecorate = lit< tt
op_number-small CompositeConstruct = lit< tt
op_number-small CompositeExtract = lit< tt
op_number-small Bitcast = lit< tt
op_number-small SNegate = lit< tt
op_number-small IAdd = lit< tt
op_number-small ISub = lit< tt
op_number-small IMul = lit< tt
op_number-small UDiv = lit< tt
op_number-small SDiv = lit< tt
op_number-small UMod = lit< tt
op_number-small SRem = lit< tt
op_number-small LogicalEqual = lit< tt
op_number-small LogicalNotEqual = lit< tt
op_number-small LogicalNot = lit< tt
op_number-small IEqual = lit< tt
op_number-small INotEqual = lit< tt
op_number-small UGreaterThan = lit< tt
op_number-small SGreaterThan = lit< tt
op_number-small UGreaterThanEqual = lit< tt
op_number-small SGreaterThanEqual = lit< tt
op_number-small ULessThan = lit< tt
op_number-small SLessThan = lit< tt
op_number-small ULessThanEqual = lit< tt
op_number-small SLessThanEqual = lit< tt
op_number-small ShiftRightLogical = lit< tt
op_number-small ShiftRightArithmetic = lit< tt
op_number-small ShiftLeftLogical = lit< tt
op_number-small BitwiseOr = lit< tt
op_number-small BitwiseXor = lit< tt
op_number-small BitwiseAnd = lit< tt
op_number-small Not = lit< tt
op_number-small LoopMerge = lit< tt
op_number-small SelectionMerge = lit< tt
op_number-small Label = lit< tt
op_number-small Branch = lit< tt
op_number-small BranchConditional = lit< tt
op_number-small Return = lit< tt
op_number-small ReturnValue = lit< tt
op_number-small Unreachable = lit< tt

pub op_number-injective : (a b : Op) → op_number a ≡ op_number b → a ≡ b
op_number-injective a b e =
    let same : Some a ≡ Some b = sym (found a) ∙ ap (λ n. first_of n every) e ∙ found b in
    cc

-- what a test chooses
chosen : (b : Bool) (o op : Op) (n : ℕ) (later : Option Op) → nat_eq (op_number o) n ≡ b → (later ≡ Some op → op_number op ≡ n) → cond b (Some o) later ≡ Some op → op_number op ≡ n
chosen true o op n later t go e = let same : o ≡ op = cc in ap op_number (sym same) ∙ eqb-true (op_number o) n t
chosen false o op n later t go e = go e

named : (ops : List Op) (n : ℕ) (op : Op) → first_of n ops ≡ Some op → op_number op ≡ n
named [] n op e = cc
named (o ∷ ops) n op e = chosen (nat_eq (op_number o) n) o op n (first_of n ops) refl (named ops n op) e

-- a number is that of an opcode, or of none
pub numbered : (n : ℕ) → ((op : Op) × (op_number op ≡ n)) ⊎ ((op : Op) → op_number op ≢ n)
numbered n = by_first (first_of n every) refl where
  by_first : (found : Option Op) → first_of n every ≡ found → ((op : Op) × (op_number op ≡ n)) ⊎ ((op : Op) → op_number op ≢ n)
  by_first (Some op) e = inl (op, named every n op e)
  by_first None e = inr (λ op same. let some : None ≡ Some op = sym e ∙ ap (λ k. first_of k every) (sym same) ∙ found op in cc)
