-- What is known of the code of a valid image, in the form in which the steps of a run use it.
use Rattle.std.specs.Prelude.{◌≡◌, ℕ, suc, ◌≤◌, true, false, nat_eq, List, [], ◌∷◌, drop, Some, slice_get}
use Rattle.behavior.specs.Values.{Word}
use Rattle.spirv_words.specs.declared.opcodes.Op.TheVariants.{FunctionParameter, FunctionCall, Branch, BranchConditional, Return, ReturnValue}
use Rattle.spirv_words.specs.declared.images.Instruction.{Instruction}
use Rattle.spirv_words.specs.Machine.{Shape, Truths, Words, PointerTo, Local, Plain, Operand, place_of, result_of, zero_of}
use Rattle.spirv_words.specs.Runs.{entry_of, start_place, initial}
use Rattle.flat_values.specs.Flat.{IsData}
use Rattle.image_lookup.specs.declared.sorts.Sort.TheVariants.{BoolType, IntType, VectorType, ArrayType, RuntimeArrayType, StructType, PointerType}
use Rattle.image_lookup.specs.Lookups.{sort, operand, is_value}
use Rattle.image_places.specs.Places.{function_of}
use Rattle.image_places.specs.declared.roles.Role.TheVariants.{Use}
use Rattle.image_rules.specs.Ids.{role_in}
use Rattle.image_rules.specs.Blocks.{is_ending}
use Rattle.image_declarations.specs.Decorations.{stride_of}
use Rattle.image_declarations.specs.Types.{length_of}
use Rattle.image_declarations.specs.Holdings.{is_data, has_type}
use Rattle.image_operands.specs.Memory.{is_pointer, member_at, constant_number}
use Rattle.image_operands.specs.Operators.{is_int}
use Rattle.image_types.specs.Functions.{is_void, is_function}
use Rattle.image_types.specs.Rules.{rule_of}
use Rattle.image_types.specs.Checking.{meets, context_at}
use Rattle.image_calls.specs.Arguments.{parameter_types}
use Rattle.image_scopes.specs.Scopes.{IsRun, IsSeen, IsGlobal}
use Rattle.image_scopes.specs.Facts.{Next, Target, Begun, Calls, Within}
use Rattle.image_scopes.specs.Runs.{Runs}
use Rattle.image_facts.specs.Operands.{globals_of, shape, type_id, is_local, root_shape, Suits}
use Rattle.image_facts.specs.Shaped.{IsRepeated, IsUnbounded, IsFields, HasData}

-- a variable of a function, with the shape of what it holds
pub record Holds (code : List Instruction) (x : ℕ) : Type 0 where
  pub form : Shape
  pub is : (level : ℕ) → root_shape code (Local level x) ≡ Some form
  pub plain : IsData form
  pub begins : initial code (globals_of code) x ≡ zero_of form

-- the entry begins behind its Function, and there what is defined outside of functions is seen
pub record Entry (code : List Instruction) : Type 0 where
  pub id : ℕ
  pub is_entry : entry_of code ≡ Some id
  pub place : ℕ
  pub there : place_of code id 0 ≡ Some place
  pub run : IsRun code (start_place code)
  pub in_it : function_of code (start_place code) ≡ suc place
  pub seen : (x : ℕ) → IsSeen code (start_place code) x → IsGlobal code x

pub record Facts (code : List Instruction) : Type 0 where
  -- instructions
  pub meets_rule : (k : ℕ) (i : Instruction) → slice_get code k ≡ Some i → meets (rule_of i.op) code (context_at code k) k i (drop (suc k) code) ≡ true
  pub runs : (k : ℕ) (i : Instruction) → IsRun code k → slice_get code k ≡ Some i → Runs i.op i.operands
  pub used : (k : ℕ) (i : Instruction) → IsRun code k → slice_get code k ≡ Some i → (j x : ℕ) → slice_get i.operands j ≡ Some x
      → role_in i j ≡ Use → is_value code x ≡ true → IsSeen code k x
  pub here : (k : ℕ) (i : Instruction) → slice_get code k ≡ Some i → (x : ℕ) → result_of i.op i.operands ≡ Some x → place_of code x 0 ≡ Some k
  pub next : (k : ℕ) (i : Instruction) → IsRun code k → slice_get code k ≡ Some i → is_ending i.op ≡ false → Next code k i
  pub in_function : (k : ℕ) → IsRun code k → function_of code k ≡ function_of code (suc k)
  pub branch : (k l : ℕ) → IsRun code k → slice_get code k ≡ Some (record { op = Branch; operands = l ∷ [] }) → Target code k l
  pub choice : (k c one other : ℕ) → IsRun code k → slice_get code k ≡ Some (record { op = BranchConditional; operands = c ∷ one ∷ other ∷ [] })
      → Target code k one × Target code k other
  pub calls : (k t r f : ℕ) (arguments : List ℕ) → IsRun code k
      → slice_get code k ≡ Some (record { op = FunctionCall; operands = t ∷ r ∷ f ∷ arguments }) → Calls code k t r f arguments
  pub begun : (f : ℕ) → is_function code f ≡ true → Begun code f
  pub entry : Entry code
  pub within : (k : ℕ) → IsRun code k → Within code k
  pub returns : (k : ℕ) → IsRun code k → slice_get code k ≡ Some (record { op = Return; operands = [] })
      → is_void code (context_at code k).result_type ≡ true
  pub returns_value : (k v : ℕ) → IsRun code k → slice_get code k ≡ Some (record { op = ReturnValue; operands = v ∷ [] })
      → (is_data code (context_at code k).result_type ≡ true) × (has_type code v (context_at code k).result_type ≡ true)
  pub parameter : (f j t : ℕ) → is_function code f ≡ true → slice_get (parameter_types code f) j ≡ Some t → is_void code t ≡ false
  pub parameter_inside : (k t r : ℕ) → slice_get code k ≡ Some (record { op = FunctionParameter; operands = t ∷ r ∷ [] })
      → function_of code k ≡ 0 → ⊥
  -- types
  pub not_void : (t : ℕ) → is_data code t ≡ true → is_void code t ≡ false
  pub no_pointer : (t : ℕ) → is_data code t ≡ true → is_pointer code t ≡ true → ⊥
  pub shape_bool : (t : ℕ) → sort code t ≡ BoolType → shape code t ≡ Some Truths
  pub shape_int : (t : ℕ) → sort code t ≡ IntType → shape code t ≡ Some (Words (nat_eq (operand code t 2) 1))
  pub shape_vector : (t : ℕ) → sort code t ≡ VectorType → IsRepeated code t (operand code t 2) 4
  pub shape_array : (t : ℕ) → sort code t ≡ ArrayType → IsRepeated code t (length_of code (operand code t 2)) (stride_of code t)
  pub shape_runtime : (t : ℕ) → sort code t ≡ RuntimeArrayType → IsUnbounded code t
  pub shape_struct : (t : ℕ) → sort code t ≡ StructType → IsFields code t
  pub shape_pointer : (t : ℕ) (s : Shape) → sort code t ≡ PointerType → shape code (operand code t 2) ≡ Some s → shape code t ≡ Some (PointerTo s)
  pub data_shape : (t : ℕ) → is_data code t ≡ true → HasData code t
  pub bool_data : (t : ℕ) → sort code t ≡ BoolType → is_data code t ≡ true
  pub int_data : (t : ℕ) → sort code t ≡ IntType → is_data code t ≡ true
  pub vector_data : (t : ℕ) → sort code t ≡ VectorType → is_data code t ≡ true
  pub vector_lanes : (t : ℕ) → sort code t ≡ VectorType → 2 ≤ operand code t 2
  pub vector_element : (t : ℕ) → sort code t ≡ VectorType → is_data code t ≡ true → is_data code (operand code t 1) ≡ true
  pub array_element : (t : ℕ) → sort code t ≡ ArrayType → is_data code t ≡ true → is_data code (operand code t 1) ≡ true
  pub struct_member : (t n m : ℕ) → sort code t ≡ StructType → is_data code t ≡ true → member_at code t n ≡ Some m → is_data code m ≡ true
  -- values
  pub global : (x : ℕ) → IsGlobal code x → (o : Operand) × ((globals_of code).ids x ≡ Some o) × Suits code o (type_id code x)
  pub constant : (x n : ℕ) → is_value code x ≡ true → constant_number code x ≡ Some n → is_int code (type_id code x) ≡ true
      → IsGlobal code x × ((globals_of code).ids x ≡ Some (Plain (Word n)))
  pub local : (x : ℕ) → is_local code x ≡ true → Holds code x
