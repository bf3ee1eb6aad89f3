-- What an instruction of each opcode defines.
use Rattle.std.specs.Prelude.{Bool, true, false}
use Rattle.spirv_words.specs.declared.opcodes.Op.{Op}
use Rattle.spirv_words.specs.declared.opcodes.Op.TheVariants.{Name, MemoryModel, EntryPoint, ExecutionMode, Capability, TypeVoid, TypeBool, TypeInt, TypeVector, TypeArray, TypeRuntimeArray, TypeStruct, TypePointer, TypeFunction, Constant, ConstantNull, Function, FunctionEnd, Variable, Store, Decorate, MemberDecorate, LoopMerge, SelectionMerge, Label, Branch, BranchConditional, Return, ReturnValue, Unreachable}
use Rattle.image_lookup.specs.declared.sorts.Sort.{Sort}
use Rattle.image_lookup.specs.declared.sorts.Sort.TheVariants.{VoidType, BoolType, IntType, VectorType, ArrayType, RuntimeArrayType, StructType, PointerType, FunctionType, Number, Null, Holder, Computed, Callee, Block, Nothing}

abbrev pub sort_of : Op → Sort
sort_of Name = Nothing
sort_of MemoryModel = Nothing
sort_of EntryPoint = Nothing
sort_of ExecutionMode = Nothing
sort_of Capability = Nothing
sort_of FunctionEnd = Nothing
sort_of Store = Nothing
sort_of Decorate = Nothing
sort_of MemberDecorate = Nothing
sort_of LoopMerge = Nothing
sort_of SelectionMerge = Nothing
sort_of Branch = Nothing
sort_of BranchConditional = Nothing
sort_of Return = Nothing
sort_of ReturnValue = Nothing
sort_of Unreachable = Nothing
sort_of TypeVoid = VoidType
sort_of TypeBool = BoolType
sort_of TypeInt = IntType
sort_of TypeVector = VectorType
sort_of TypeArray = ArrayType
sort_of TypeRuntimeArray = RuntimeArrayType
sort_of TypeStruct = StructType
sort_of TypePointer = PointerType
sort_of TypeFunction = FunctionType
sort_of Constant = Number
sort_of ConstantNull = Null
sort_of Variable = Holder
sort_of Function = Callee
sort_of Label = Block
sort_of op = Computed

-- values have their type as the first operand of the instruction that defines them
abbrev pub is_value_sort : Sort → Bool
is_value_sort Number = true
is_value_sort Null = true
is_value_sort Holder = true
is_value_sort Computed = true
is_value_sort sort = false
