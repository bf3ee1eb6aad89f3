-- What is known of an instruction that is run, of the one that follows, and of where calls and branches lead.
use Rattle.std.specs.Prelude.{◌≡◌, ◌⊎◌, ℕ, suc, ◌+◌, ◌<◌, true, false, List, [], ◌∷◌, length, Some, None, slice_get}
use Rattle.spirv_words.specs.declared.opcodes.Op.TheVariants.{Function, FunctionParameter, Label}
use Rattle.spirv_words.specs.declared.images.Instruction.{Instruction}
use Rattle.spirv_words.specs.Machine.{place_of, result_of}
use Rattle.spirv_words.specs.Runs.{entry_of, start_place}
use Rattle.image_lookup.specs.Lookups.{operand, is_value}
use Rattle.image_places.specs.Places.{function_of}
use Rattle.image_rules.specs.Blocks.{is_label}
use Rattle.image_types.specs.Functions.{is_void, is_function}
use Rattle.image_types.specs.Checking.{context_at}
use Rattle.call_graph.specs.Edges.{Leads}
use Rattle.image_calls.specs.Edges.{calls}
use Rattle.image_calls.specs.Arguments.{parameter_types, are_arguments}
use Rattle.image_calls.specs.Calls.{inside_at}
use Rattle.image_scopes.specs.Scopes.{IsRun, IsSeen, IsGlobal}

-- behind an instruction that ends no block another one is run; what is seen there was seen before, or is the result
pub record Next (code : List Instruction) (k : ℕ) (i : Instruction) : Type 0 where
  pub run : IsRun code (suc k)
  pub same_function : function_of code (suc (suc k)) ≡ function_of code (suc k)
  pub no_label : is_label run.instruction.op ≡ false
  pub seen : (x : ℕ) → IsSeen code (suc k) x → IsSeen code k x ⊎ ((result_of i.op i.operands ≡ Some x) × (place_of code x 0 ≡ Some k))

-- an id is that of a Label in the same function, at which nothing more is seen
pub record Target (code : List Instruction) (k l : ℕ) : Type 0 where
  pub place : ℕ
  pub there : place_of code l 0 ≡ Some place
  pub label : slice_get code place ≡ Some (record { op = Label; operands = l ∷ [] })
  pub run : IsRun code place
  pub same_function : function_of code place ≡ function_of code k
  pub seen : (x : ℕ) → IsSeen code place x → IsSeen code k x

-- the parameter with this number, of this type and id, of the function at a place
pub record ParameterAt (code : List Instruction) (p j t r : ℕ) : Type 0 where
  pub stands : slice_get code (suc p + j) ≡ Some (record { op = FunctionParameter; operands = t ∷ r ∷ [] })
  pub value : is_value code r ≡ true
  pub type : operand code r 0 ≡ t
  pub there : place_of code r 0 ≡ Some (suc p + j)

-- a function stands at a place, and its parameters behind it, and then its first Label
pub record Begun (code : List Instruction) (f : ℕ) : Type 0 where
  pub place : ℕ
  pub there : place_of code f 0 ≡ Some place
  pub result : ℕ
  pub type : ℕ
  pub stands : slice_get code place ≡ Some (record { op = Function; operands = result ∷ f ∷ 0 ∷ type ∷ [] })
  pub gives : operand code f 0 ≡ result
  pub of_type : operand code f 3 ≡ type
  pub parameter : (j t : ℕ) → slice_get (parameter_types code f) j ≡ Some t → (r : ℕ) × ParameterAt code place j t r
  pub run : IsRun code (suc place + length (parameter_types code f))
  pub label : is_label run.instruction.op ≡ true
  pub in_it : function_of code (suc place + length (parameter_types code f)) ≡ suc place
  pub seen : (x : ℕ) → IsSeen code (suc place + length (parameter_types code f)) x
      → IsGlobal code x ⊎ ((j : ℕ) × (j < length (parameter_types code f)) × (place_of code x 0 ≡ Some (suc place + j)))

-- a run begins at the first Label of the entry, which has neither parameters nor a result
pub record Begins (code : List Instruction) : Type 0 where
  pub entry : ℕ
  pub is_entry : entry_of code ≡ Some entry
  pub begun : Begun code entry
  pub no_parameters : parameter_types code entry ≡ []
  pub no_result : is_void code (operand code entry 0) ≡ true
  pub start : start_place code ≡ suc begun.place
  pub run : IsRun code (start_place code)
  pub in_it : function_of code (start_place code) ≡ start_place code
  pub seen : (x : ℕ) → IsSeen code (start_place code) x → IsGlobal code x

-- a call is of a function that is not the entry and never leads back, with arguments of the types of its parameters
pub record Calls (code : List Instruction) (k t r f : ℕ) (arguments : List ℕ) : Type 0 where
  pub callee : is_function code f ≡ true
  pub gives : operand code f 0 ≡ t
  pub fit : are_arguments code (parameter_types code f) arguments ≡ true
  pub no_entry : entry_of code ≡ Some f → ⊥
  pub never_back : (caller : ℕ) → inside_at code k ≡ Some caller → Leads (calls None code) f caller → ⊥

-- the function in which an instruction stands, and what the rules on types know of it
pub record Within (code : List Instruction) (k : ℕ) : Type 0 where
  pub place : ℕ
  pub result : ℕ
  pub function : ℕ
  pub type : ℕ
  pub opened : function_of code k ≡ suc place
  pub stands : slice_get code place ≡ Some (record { op = Function; operands = result ∷ function ∷ 0 ∷ type ∷ [] })
  pub inside : (context_at code k).inside ≡ true
  pub gives : (context_at code k).result_type ≡ result
  pub of_type : (context_at code k).type_id ≡ type
  pub there : place_of code function 0 ≡ Some place
  pub callee : is_function code function ≡ true
  pub first : operand code function 0 ≡ result
  pub caller : inside_at code k ≡ Some function
