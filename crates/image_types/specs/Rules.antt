-- Which rule on types an opcode has.
use Rattle.spirv_words.specs.declared.opcodes.Op.{Op}
use Rattle.spirv_words.specs.declared.opcodes.Op.TheVariants.{EntryPoint, ExecutionMode, Decorate, MemberDecorate, TypeVector, TypeArray, TypeRuntimeArray, TypeStruct, TypePointer, TypeFunction, ConstantTrue, ConstantFalse, Constant, ConstantNull, Function, FunctionParameter, FunctionCall, Variable, Load, Store, AccessChain, CompositeConstruct, CompositeExtract, Bitcast, SNegate, Not, IAdd, ISub, IMul, BitwiseOr, BitwiseXor, BitwiseAnd, SDiv, SRem, UDiv, UMod, ShiftLeftLogical, ShiftRightArithmetic, ShiftRightLogical, IEqual, INotEqual, SGreaterThan, SGreaterThanEqual, SLessThan, SLessThanEqual, UGreaterThan, UGreaterThanEqual, ULessThan, ULessThanEqual, LogicalEqual, LogicalNotEqual, LogicalNot, BranchConditional, Return, ReturnValue}
use Rattle.image_operands.specs.declared.operators.Numbers.TheVariants.{Either, Ints, Uints}
use Rattle.image_types.specs.declared.rules.Rule.{Rule}
use Rattle.image_types.specs.declared.rules.Rule.TheVariants.{Free, Entry, Mode, Decoration, MemberDecoration, OfVector, OfArray, OfRuntimeArray, OfStruct, OfPointer, OfFunctionType, Truth, OfNumber, OfNull, OfFunction, Parameter, OfVariable, Loading, Storing, Chain, Constructing, Extracting, Bits, Unary, Binary, Shift, Comparison, Logical, Negation, Call, Condition, Returning, ReturningValue}

abbrev pub rule_of : Op → Rule
rule_of EntryPoint = Entry
rule_of ExecutionMode = Mode
rule_of Decorate = Decoration
rule_of MemberDecorate = MemberDecoration
rule_of TypeVector = OfVector
rule_of TypeArray = OfArray
rule_of TypeRuntimeArray = OfRuntimeArray
rule_of TypeStruct = OfStruct
rule_of TypePointer = OfPointer
rule_of TypeFunction = OfFunctionType
rule_of ConstantTrue = Truth
rule_of ConstantFalse = Truth
rule_of Constant = OfNumber
rule_of ConstantNull = OfNull
rule_of Function = OfFunction
rule_of FunctionParameter = Parameter
rule_of FunctionCall = Call
rule_of Variable = OfVariable
rule_of Load = Loading
rule_of Store = Storing
rule_of AccessChain = Chain
rule_of CompositeConstruct = Constructing
rule_of CompositeExtract = Extracting
rule_of Bitcast = Bits
rule_of SNegate = Unary
rule_of Not = Unary
rule_of IAdd = Binary Either
rule_of ISub = Binary Either
rule_of IMul = Binary Either
rule_of BitwiseOr = Binary Either
rule_of BitwiseXor = Binary Either
rule_of BitwiseAnd = Binary Either
rule_of SDiv = Binary Ints
rule_of SRem = Binary Ints
rule_of UDiv = Binary Uints
rule_of UMod = Binary Uints
rule_of ShiftLeftLogical = Shift Either
rule_of ShiftRightArithmetic = Shift Ints
rule_of ShiftRightLogical = Shift Uints
rule_of IEqual = Comparison Either
rule_of INotEqual = Comparison Either
rule_of SGreaterThan = Comparison Ints
rule_of SGreaterThanEqual = Comparison Ints
rule_of SLessThan = Comparison Ints
rule_of SLessThanEqual = Comparison Ints
rule_of UGreaterThan = Comparison Uints
rule_of UGreaterThanEqual = Comparison Uints
rule_of ULessThan = Comparison Uints
rule_of ULessThanEqual = Comparison Uints
rule_of LogicalEqual = Logical
rule_of LogicalNotEqual = Logical
rule_of LogicalNot = Negation
rule_of BranchConditional = Condition
rule_of Return = Returning
rule_of ReturnValue = ReturningValue
rule_of op = Free
