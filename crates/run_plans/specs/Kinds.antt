-- What an instruction of each opcode does.
use Rattle.spirv_words.specs.declared.opcodes.Op.{Op}
use Rattle.spirv_words.specs.declared.opcodes.Op.TheVariants.{FunctionCall, Variable as VariableOp, Load as LoadOp, Store as StoreOp, AccessChain, CompositeConstruct, CompositeExtract, Bitcast, SNegate, IAdd, ISub, IMul, UDiv, SDiv, UMod, SRem, LogicalEqual, LogicalNotEqual, LogicalNot, IEqual, INotEqual, UGreaterThan, SGreaterThan, UGreaterThanEqual, SGreaterThanEqual, ULessThan, SLessThan, ULessThanEqual, SLessThanEqual, ShiftRightLogical, ShiftRightArithmetic, ShiftLeftLogical, BitwiseOr, BitwiseXor, BitwiseAnd, Not as NotOp, LoopMerge, SelectionMerge, Label, Branch as BranchOp, BranchConditional, Return as ReturnOp, ReturnValue, Unreachable as UnreachableOp}
use Rattle.flat_values.specs.declared.operators.Unary.TheVariants.{Negate, Not, Flip}
use Rattle.flat_values.specs.declared.operators.Binary.TheVariants.{Add, Sub, Mul, UDiv as UDivide, SDiv as SDivide, UMod as UModulo, SRem as SRemainder, ShiftLeft, ShiftRight, ShiftRightSigned, And, Or, Xor, Equal, NotEqual, ULess, ULessEqual, SLess, SLessEqual}
use Rattle.run_plans.specs.declared.kinds.Kind.{Kind}
use Rattle.run_plans.specs.declared.kinds.Kind.TheVariants.{Pass, Variable, Load, Store, Chain, Construct, Extract, Same, One, Two, Turned, Branch, Condition, Call, Return, GiveBack, Unreachable, Never}

abbrev pub kind_of : Op → Kind
kind_of Label = Pass
kind_of LoopMerge = Pass
kind_of SelectionMerge = Pass
kind_of VariableOp = Variable
kind_of LoadOp = Load
kind_of StoreOp = Store
kind_of AccessChain = Chain
kind_of CompositeConstruct = Construct
kind_of CompositeExtract = Extract
kind_of Bitcast = Same
kind_of SNegate = One Negate
kind_of NotOp = One Not
kind_of LogicalNot = One Flip
kind_of IAdd = Two Add
kind_of ISub = Two Sub
kind_of IMul = Two Mul
kind_of UDiv = Two UDivide
kind_of SDiv = Two SDivide
kind_of UMod = Two UModulo
kind_of SRem = Two SRemainder
kind_of ShiftLeftLogical = Two ShiftLeft
kind_of ShiftRightLogical = Two ShiftRight
kind_of ShiftRightArithmetic = Two ShiftRightSigned
kind_of BitwiseAnd = Two And
kind_of BitwiseOr = Two Or
kind_of BitwiseXor = Two Xor
kind_of LogicalEqual = Two Equal
kind_of LogicalNotEqual = Two NotEqual
kind_of IEqual = Two Equal
kind_of INotEqual = Two NotEqual
kind_of ULessThan = Two ULess
kind_of ULessThanEqual = Two ULessEqual
kind_of UGreaterThan = Turned ULess
kind_of UGreaterThanEqual = Turned ULessEqual
kind_of SLessThan = Two SLess
kind_of SLessThanEqual = Two SLessEqual
kind_of SGreaterThan = Turned SLess
kind_of SGreaterThanEqual = Turned SLessEqual
kind_of BranchOp = Branch
kind_of BranchConditional = Condition
kind_of FunctionCall = Call
kind_of ReturnOp = Return
kind_of ReturnValue = GiveBack
kind_of UnreachableOp = Unreachable
kind_of op = Never
