-- The opcode of what defines an id of a sort.
use Rattle.std.proofs.Common.{◌≡◌, ℕ, List, Option, Some, None, refl, ap}
use Rattle.spirv_words.specs.declared.opcodes.Op.{Op}
use Rattle.spirv_words.specs.declared.opcodes.Op.TheVariants.{TypeVoid, TypeBool, TypeInt, TypeVector, TypeArray, TypeRuntimeArray, TypeStruct, TypePointer, Constant, ConstantNull, Variable}
use Rattle.spirv_words.specs.declared.images.Instruction.{Instruction}
use Rattle.spirv_words.specs.Machine.{definition_of}
use Rattle.image_lookup.specs.declared.sorts.Sort.{Sort}
use Rattle.image_lookup.specs.declared.sorts.Sort.TheVariants.{VoidType, BoolType, IntType, VectorType, ArrayType, RuntimeArrayType, StructType, PointerType, Number, Null, Holder, Nothing}
use Rattle.image_lookup.specs.Sorts.{sort_of}
use Rattle.image_lookup.specs.Lookups.{sort_in, operands_in, sort, operands}

pub sort-is : (code : List Instruction) (id : ℕ) (x : Instruction) → definition_of code id ≡ Some x → sort code id ≡ sort_of x.op
unfolding sort
sort-is code id x h = ap sort_in h

pub no-sort : (code : List Instruction) (id : ℕ) → definition_of code id ≡ None → sort code id ≡ Nothing
unfolding sort
no-sort code id h = ap sort_in h

pub operands-are : (code : List Instruction) (id : ℕ) (x : Instruction) → definition_of code id ≡ Some x → operands code id ≡ x.operands
unfolding operands
operands-are code id x h = ap operands_in h

-- an id of a sort is defined, by an instruction of an opcode of the sort
pub record IsSorted (code : List Instruction) (id : ℕ) (s : Sort) : Type 0 where
  pub instruction : Instruction
  pub defines : definition_of code id ≡ Some instruction
  pub of_sort : sort_of instruction.op ≡ s

sorted-in : (code : List Instruction) (id : ℕ) (s : Sort) (o : Option Instruction) → definition_of code id ≡ o → sort_in o ≡ s → (Nothing ≡ s → ⊥) → IsSorted code id s
sorted-in code id s None e h n = absurd (n h)
sorted-in code id s (Some x) e h n = record { instruction = x; defines = e; of_sort = h }

pub sorted : (code : List Instruction) (id : ℕ) (s : Sort) → sort code id ≡ s → (Nothing ≡ s → ⊥) → IsSorted code id s
unfolding sort
sorted code id s h n = sorted-in code id s (definition_of code id) refl h n

pub op-void : (op : Op) → sort_of op ≡ VoidType → op ≡ TypeVoid
op-void TypeVoid e = refl
op-void op e = cc

pub op-bool : (op : Op) → sort_of op ≡ BoolType → op ≡ TypeBool
op-bool TypeBool e = refl
op-bool op e = cc

pub op-int : (op : Op) → sort_of op ≡ IntType → op ≡ TypeInt
op-int TypeInt e = refl
op-int op e = cc

pub op-vector : (op : Op) → sort_of op ≡ VectorType → op ≡ TypeVector
op-vector TypeVector e = refl
op-vector op e = cc

pub op-array : (op : Op) → sort_of op ≡ ArrayType → op ≡ TypeArray
op-array TypeArray e = refl
op-array op e = cc

pub op-runtime : (op : Op) → sort_of op ≡ RuntimeArrayType → op ≡ TypeRuntimeArray
op-runtime TypeRuntimeArray e = refl
op-runtime op e = cc

pub op-struct : (op : Op) → sort_of op ≡ StructType → op ≡ TypeStruct
op-struct TypeStruct e = refl
op-struct op e = cc

pub op-pointer : (op : Op) → sort_of op ≡ PointerType → op ≡ TypePointer
op-pointer TypePointer e = refl
op-pointer op e = cc

pub op-number : (op : Op) → sort_of op ≡ Number → op ≡ Constant
op-number Constant e = refl
op-number op e = cc

pub op-null : (op : Op) → sort_of op ≡ Null → op ≡ ConstantNull
op-null ConstantNull e = refl
op-null op e = cc

pub op-holder : (op : Op) → sort_of op ≡ Holder → op ≡ Variable
op-holder Variable e = refl
op-holder op e = cc
