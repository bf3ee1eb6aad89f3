-- Which opcodes may be run, and how many operands they have.
use Rattle.std.proofs.Common.{◌≡◌, ℕ, true, List, [], ◌∷◌, refl}
use Rattle.spirv_words.specs.declared.opcodes.Op.{Op}
use Rattle.spirv_words.specs.declared.opcodes.Op.TheVariants.{FunctionCall, Variable, Load, Store, AccessChain, CompositeConstruct, CompositeExtract, Bitcast, SNegate, IAdd, ISub, IMul, UDiv, SDiv, UMod, SRem, LogicalEqual, LogicalNotEqual, LogicalNot, IEqual, INotEqual, UGreaterThan, SGreaterThan, UGreaterThanEqual, SGreaterThanEqual, ULessThan, SLessThan, ULessThanEqual, SLessThanEqual, ShiftRightLogical, ShiftRightArithmetic, ShiftLeftLogical, BitwiseOr, BitwiseXor, BitwiseAnd, Not, LoopMerge, SelectionMerge, Label, Branch, BranchConditional, Return, ReturnValue, Unreachable}
use Rattle.spirv_words.specs.declared.images.Image.{Image}
use Rattle.spirv_words.specs.Layouts.{fits, is_unary, is_binary}
use Rattle.image_operands.specs.declared.operators.Numbers.{Numbers}
use Rattle.image_operands.specs.declared.operators.Numbers.TheVariants.{Either, Ints, Uints}
use Rattle.image_types.specs.declared.rules.Rule.TheVariants.{Unary, Binary, Shift, Comparison, Logical}
use Rattle.image_types.specs.Rules.{rule_of}
use Rattle.spirv_check.specs.Valid.{Valid}
use Rattle.image_scopes.specs.Runs.{may_run, Runs, IsLabel, IsVariable, IsLoad, IsStore, IsChain, IsConstruct, IsExtract, IsBitcast, IsUnary, IsBinary, IsShift, IsComparison, IsLogical, IsNegation, IsLoopMerge, IsSelectionMerge, IsBranch, IsCondition, IsCall, IsReturn, IsReturnValue, IsUnreachable}
use Rattle.image_scopes.specs.Scopes.{IsRun}
use Rattle.image_scopes.proofs.Kept.{operands_fit}
use Rattle.image_scopes.proofs.Ordered.{may_be_run}

label : (os : List ℕ) → fits Label os ≡ true → Runs Label os
label (r ∷ []) e = IsLabel r
label os e = cc

variable : (os : List ℕ) → fits Variable os ≡ true → Runs Variable os
variable (t ∷ r ∷ class ∷ []) e = IsVariable t r class
variable os e = cc

load : (os : List ℕ) → fits Load os ≡ true → Runs Load os
load (t ∷ r ∷ p ∷ []) e = IsLoad t r p
load os e = cc

store : (os : List ℕ) → fits Store os ≡ true → Runs Store os
store (p ∷ v ∷ []) e = IsStore p v
store os e = cc

chain : (os : List ℕ) → fits AccessChain os ≡ true → Runs AccessChain os
chain (t ∷ r ∷ p ∷ is) e = IsChain t r p is
chain os e = cc

construct : (os : List ℕ) → fits CompositeConstruct os ≡ true → Runs CompositeConstruct os
construct (t ∷ r ∷ is) e = IsConstruct t r is
construct os e = cc

extract : (os : List ℕ) → fits CompositeExtract os ≡ true → Runs CompositeExtract os
extract (t ∷ r ∷ a ∷ path) e = IsExtract t r a path
extract os e = cc

bitcast : (os : List ℕ) → fits Bitcast os ≡ true → Runs Bitcast os
bitcast (t ∷ r ∷ a ∷ []) e = IsBitcast t r a
bitcast os e = cc

unary : (op : Op) (os : List ℕ) → is_unary os ≡ true → rule_of op ≡ Unary → Runs op os
unary op (t ∷ r ∷ a ∷ []) e h = IsUnary op t r a h
unary op os e h = cc

negation : (os : List ℕ) → fits LogicalNot os ≡ true → Runs LogicalNot os
negation (t ∷ r ∷ a ∷ []) e = IsNegation t r a
negation os e = cc

binary : (op : Op) (numbers : Numbers) (os : List ℕ) → is_binary os ≡ true → rule_of op ≡ Binary numbers → Runs op os
binary op numbers (t ∷ r ∷ a ∷ b ∷ []) e h = IsBinary op numbers t r a b h
binary op numbers os e h = cc

shift : (op : Op) (numbers : Numbers) (os : List ℕ) → is_binary os ≡ true → rule_of op ≡ Shift numbers → Runs op os
shift op numbers (t ∷ r ∷ a ∷ b ∷ []) e h = IsShift op numbers t r a b h
shift op numbers os e h = cc

comparison : (op : Op) (numbers : Numbers) (os : List ℕ) → is_binary os ≡ true → rule_of op ≡ Comparison numbers → Runs op os
comparison op numbers (t ∷ r ∷ a ∷ b ∷ []) e h = IsComparison op numbers t r a b h
comparison op numbers os e h = cc

logical : (op : Op) (os : List ℕ) → is_binary os ≡ true → rule_of op ≡ Logical → Runs op os
logical op (t ∷ r ∷ a ∷ b ∷ []) e h = IsLogical op t r a b h
logical op os e h = cc

loop_merge : (os : List ℕ) → fits LoopMerge os ≡ true → Runs LoopMerge os
loop_merge (merge ∷ continue ∷ control ∷ []) e = IsLoopMerge merge continue control
loop_merge os e = cc

selection_merge : (os : List ℕ) → fits SelectionMerge os ≡ true → Runs SelectionMerge os
selection_merge (merge ∷ control ∷ []) e = IsSelectionMerge merge control
selection_merge os e = cc

branch : (os : List ℕ) → fits Branch os ≡ true → Runs Branch os
branch (l ∷ []) e = IsBranch l
branch os e = cc

condition : (os : List ℕ) → fits BranchConditional os ≡ true → Runs BranchConditional os
condition (c ∷ one ∷ other ∷ []) e = IsCondition c one other
condition os e = cc

call : (os : List ℕ) → fits FunctionCall os ≡ true → Runs FunctionCall os
call (t ∷ r ∷ f ∷ arguments) e = IsCall t r f arguments
call os e = cc

return : (os : List ℕ) → fits Return os ≡ true → Runs Return os
return [] e = IsReturn
return os e = cc

return_value : (os : List ℕ) → fits ReturnValue os ≡ true → Runs ReturnValue os
return_value (v ∷ []) e = IsReturnValue v
return_value os e = cc

unreachable : (os : List ℕ) → fits Unreachable os ≡ true → Runs Unreachable os
unreachable [] e = IsUnreachable
unreachable os e = cc

pub runs_by : (op : Op) (os : List ℕ) → may_run op ≡ true → fits op os ≡ true → Runs op os
runs_by Label os may e = label os e
runs_by Variable os may e = variable os e
runs_by Load os may e = load os e
runs_by Store os may e = store os e
runs_by AccessChain os may e = chain os e
runs_by CompositeConstruct os may e = construct os e
runs_by CompositeExtract os may e = extract os e
runs_by Bitcast os may e = bitcast os e
runs_by SNegate os may e = unary SNegate os e refl
runs_by Not os may e = unary Not os e refl
runs_by LogicalNot os may e = negation os e
runs_by IAdd os may e = binary IAdd Either os e refl
runs_by ISub os may e = binary ISub Either os e refl
runs_by IMul os may e = binary IMul Either os e refl
runs_by BitwiseOr os may e = binary BitwiseOr Either os e refl
runs_by BitwiseXor os may e = binary BitwiseXor Either os e refl
runs_by BitwiseAnd os may e = binary BitwiseAnd Either os e refl
runs_by SDiv os may e = binary SDiv Ints os e refl
runs_by SRem os may e = binary SRem Ints os e refl
runs_by UDiv os may e = binary UDiv Uints os e refl
runs_by UMod os may e = binary UMod Uints os e refl
runs_by ShiftLeftLogical os may e = shift ShiftLeftLogical Either os e refl
runs_by ShiftRightArithmetic os may e = shift ShiftRightArithmetic Ints os e refl
runs_by ShiftRightLogical os may e = shift ShiftRightLogical Uints os e refl
runs_by IEqual os may e = comparison IEqual Either os e refl
runs_by INotEqual os may e = comparison INotEqual Either os e refl
runs_by SGreaterThan os may e = comparison SGreaterThan Ints os e refl
runs_by SGreaterThanEqual os may e = comparison SGreaterThanEqual Ints os e refl
runs_by SLessThan os may e = comparison SLessThan Ints os e refl
runs_by SLessThanEqual os may e = comparison SLessThanEqual Ints os e refl
runs_by UGreaterThan os may e = comparison UGreaterThan Uints os e refl
runs_by UGreaterThanEqual os may e = comparison UGreaterThanEqual Uints os e refl
runs_by ULessThan os may e = comparison ULessThan Uints os e refl
runs_by ULessThanEqual os may e = comparison ULessThanEqual Uints os e refl
runs_by LogicalEqual os may e = logical LogicalEqual os e refl
runs_by LogicalNotEqual os may e = logical LogicalNotEqual os e refl
runs_by LoopMerge os may e = loop_merge os e
runs_by SelectionMerge os may e = selection_merge os e
runs_by Branch os may e = branch os e
runs_by BranchConditional os may e = condition os e
runs_by FunctionCall os may e = call os e
runs_by Return os may e = return os e
runs_by ReturnValue os may e = return_value os e
runs_by Unreachable os may e = unreachable os e
runs_by op os may e = cc

-- an instruction that is run has an opcode that may be run, and its operands
pub runs : (image : Image) → Valid image → (k : ℕ) (run : IsRun image.instructions k) → Runs run.instruction.op run.instruction.operands
runs image v k run =
    runs_by run.instruction.op run.instruction.operands (may_be_run image v k run) (operands_fit image v k run.instruction run.stands)
