-- The instructions that are run, by what their opcodes have as operands and which rule on types they have.
use Rattle.std.specs.Prelude.{◌≡◌, ℕ, Bool, false, List, [], ◌∷◌}
use Rattle.spirv_words.specs.declared.opcodes.Op.{Op}
use Rattle.spirv_words.specs.declared.opcodes.Op.TheVariants.{FunctionParameter, FunctionEnd, FunctionCall, Variable, Load, Store, AccessChain, CompositeConstruct, CompositeExtract, Bitcast, LogicalNot, LoopMerge, SelectionMerge, Label, Branch, BranchConditional, Return, ReturnValue, Unreachable}
use Rattle.image_rules.specs.Order.{may_stand}
use Rattle.image_operands.specs.declared.operators.Numbers.{Numbers}
use Rattle.image_types.specs.declared.rules.Rule.TheVariants.{Unary, Binary, Shift, Comparison, Logical}
use Rattle.image_types.specs.Rules.{rule_of}

-- an opcode that may stand behind a Label, but no parameter and no end of a function
abbrev pub may_run : Op → Bool
may_run FunctionParameter = false
may_run FunctionEnd = false
may_run op = may_stand op 1

-- an opcode that may be run, with as many operands as it has
pub data Runs : Op → List ℕ → Type 0 where
  IsLabel : (r : ℕ) → Runs Label (r ∷ [])
  IsVariable : (t r class : ℕ) → Runs Variable (t ∷ r ∷ class ∷ [])
  IsLoad : (t r p : ℕ) → Runs Load (t ∷ r ∷ p ∷ [])
  IsStore : (p v : ℕ) → Runs Store (p ∷ v ∷ [])
  IsChain : (t r p : ℕ) (is : List ℕ) → Runs AccessChain (t ∷ r ∷ p ∷ is)
  IsConstruct : (t r : ℕ) (is : List ℕ) → Runs CompositeConstruct (t ∷ r ∷ is)
  IsExtract : (t r a : ℕ) (path : List ℕ) → Runs CompositeExtract (t ∷ r ∷ a ∷ path)
  IsBitcast : (t r a : ℕ) → Runs Bitcast (t ∷ r ∷ a ∷ [])
  IsUnary : (op : Op) (t r a : ℕ) → rule_of op ≡ Unary → Runs op (t ∷ r ∷ a ∷ [])
  IsBinary : (op : Op) (numbers : Numbers) (t r a b : ℕ) → rule_of op ≡ Binary numbers → Runs op (t ∷ r ∷ a ∷ b ∷ [])
  IsShift : (op : Op) (numbers : Numbers) (t r a b : ℕ) → rule_of op ≡ Shift numbers → Runs op (t ∷ r ∷ a ∷ b ∷ [])
  IsComparison : (op : Op) (numbers : Numbers) (t r a b : ℕ) → rule_of op ≡ Comparison numbers → Runs op (t ∷ r ∷ a ∷ b ∷ [])
  IsLogical : (op : Op) (t r a b : ℕ) → rule_of op ≡ Logical → Runs op (t ∷ r ∷ a ∷ b ∷ [])
  IsNegation : (t r a : ℕ) → Runs LogicalNot (t ∷ r ∷ a ∷ [])
  IsLoopMerge : (merge continue control : ℕ) → Runs LoopMerge (merge ∷ continue ∷ control ∷ [])
  IsSelectionMerge : (merge control : ℕ) → Runs SelectionMerge (merge ∷ control ∷ [])
  IsBranch : (l : ℕ) → Runs Branch (l ∷ [])
  IsCondition : (c one other : ℕ) → Runs BranchConditional (c ∷ one ∷ other ∷ [])
  IsCall : (t r f : ℕ) (arguments : List ℕ) → Runs FunctionCall (t ∷ r ∷ f ∷ arguments)
  IsReturn : Runs Return []
  IsReturnValue : (v : ℕ) → Runs ReturnValue (v ∷ [])
  IsUnreachable : Runs Unreachable []
