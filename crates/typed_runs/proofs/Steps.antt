-- Each step of a run keeps the state typed.
use Rattle.std.proofs.Common.{ℕ, List, [], ◌∷◌, slice_get}
use Rattle.behavior.specs.Meanings.{Ids}
use Rattle.spirv_words.specs.declared.opcodes.Op.{Op}
use Rattle.spirv_words.specs.declared.images.Instruction.{Instruction}
use Rattle.spirv_words.specs.Step.{State, act, step}
use Rattle.spirv_words.specs.Runs.{setting}
use Rattle.image_scopes.specs.Runs.{Runs, IsLabel, IsVariable, IsLoad, IsStore, IsChain, IsConstruct, IsExtract, IsBitcast, IsUnary, IsBinary, IsShift, IsComparison, IsLogical, IsNegation, IsLoopMerge, IsSelectionMerge, IsBranch, IsCondition, IsCall, IsReturn, IsReturnValue, IsUnreachable}
use Rattle.typed_runs.specs.States.{IsTyped, Keeps}
use Rattle.typed_runs.proofs.Facts.{Facts}
use Rattle.typed_runs.proofs.Going.{At}
use Rattle.typed_runs.proofs.Operands.{keeps_some}
use Rattle.typed_runs.proofs.Operators.{unary_keeps, binary_keeps, shift_keeps, comparison_keeps, logical_keeps, negation_keeps, bitcast_keeps}
use Rattle.typed_runs.proofs.Composites.{construct_keeps, extract_keeps}
use Rattle.typed_runs.proofs.Memory.{variable_keeps, load_keeps, store_keeps}
use Rattle.typed_runs.proofs.Chains.{chain_keeps}
use Rattle.typed_runs.proofs.Jumps.{label_keeps, loop_merge_keeps, selection_merge_keeps, branch_keeps, choice_keeps}
use Rattle.typed_runs.proofs.Calls.{call_keeps, return_keeps, return_value_keeps}

module _ (code : List Instruction) (facts : Facts code) (ids : Ids) (lengths : ℕ → ℕ → ℕ) where
  acts : (s : State) (op : Op) (os : List ℕ) → Runs op os → At code s op os → Keeps code (act (setting code ids lengths) op os s)
  acts s op os (IsLabel r) a = label_keeps code facts (setting code ids lengths) s r a
  acts s op os (IsVariable t r class) a = variable_keeps code facts ids lengths s t r class a
  acts s op os (IsLoad t r p) a = load_keeps code facts ids lengths s t r p a
  acts s op os (IsStore p v) a = store_keeps code facts ids lengths s p v a
  acts s op os (IsChain t r p is) a = chain_keeps code facts ids lengths s t r p is a
  acts s op os (IsConstruct t r is) a = construct_keeps code facts (setting code ids lengths) s t r is a
  acts s op os (IsExtract t r x path) a = extract_keeps code facts (setting code ids lengths) s t r x path a
  acts s op os (IsBitcast t r x) a = bitcast_keeps code facts (setting code ids lengths) s t r x a
  acts s op os (IsUnary op' t r x e) a = unary_keeps code facts (setting code ids lengths) s op' t r x a e
  acts s op os (IsBinary op' n t r x y e) a = binary_keeps code facts (setting code ids lengths) s op' n t r x y a e
  acts s op os (IsShift op' n t r x y e) a = shift_keeps code facts (setting code ids lengths) s op' n t r x y a e
  acts s op os (IsComparison op' n t r x y e) a = comparison_keeps code facts (setting code ids lengths) s op' n t r x y a e
  acts s op os (IsLogical op' t r x y e) a = logical_keeps code facts (setting code ids lengths) s op' t r x y a e
  acts s op os (IsNegation t r x) a = negation_keeps code facts (setting code ids lengths) s t r x a
  acts s op os (IsLoopMerge merge continue control) a = loop_merge_keeps code facts (setting code ids lengths) s (merge ∷ continue ∷ control ∷ []) a
  acts s op os (IsSelectionMerge merge control) a = selection_merge_keeps code facts (setting code ids lengths) s (merge ∷ control ∷ []) a
  acts s op os (IsBranch l) a = branch_keeps code facts ids lengths s l a
  acts s op os (IsCondition c one other) a = choice_keeps code facts ids lengths s c one other a
  acts s op os (IsCall t r f arguments) a = call_keeps code facts ids lengths s t r f arguments a
  acts s op os IsReturn a = return_keeps code facts ids lengths s a
  acts s op os (IsReturnValue v) a = return_value_keeps code facts ids lengths s v a
  acts s op os IsUnreachable a = tt

  pub step_is_typed : (s : State) → IsTyped code s → Keeps code (step (setting code ids lengths) s)
  step_is_typed s typed =
      keeps_some code (slice_get code s.place) typed.run.instruction (λ i. act (setting code ids lengths) i.op i.operands s) typed.run.stands
      (acts s typed.run.instruction.op typed.run.instruction.operands (facts.runs s.place typed.run.instruction typed.run typed.run.stands)
      (record { typed = typed; stands = typed.run.stands }))
