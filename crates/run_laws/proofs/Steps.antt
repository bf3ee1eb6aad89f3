-- Each instruction that is run does to values what its action does to words.
use Rattle.std.specs.List.{AllByRecursion}
use Rattle.std.proofs.lemmas.Bool.{eqb-true}
use Rattle.std.proofs.Common.{◌≡◌, ℕ, suc, ◌+◌, Bool, true, false, not, nat_eq, List, [], ◌∷◌, Option, Some, None, refl, sym, ap, subst, ◌∙◌}
use Rattle.std.specs.Prelude.{nat_lt, nat_le, slice_get}
use Rattle.behavior.specs.Meanings.{Ids}
use Rattle.behavior.specs.Operations.{word_slt, word_sle}
use Rattle.spirv_words.specs.declared.opcodes.Op.{Op}
use Rattle.spirv_words.specs.declared.opcodes.Op.TheVariants.{Label, Variable, Load, Store, AccessChain, CompositeConstruct, CompositeExtract, Bitcast, SNegate, IAdd, ISub, IMul, UDiv, SDiv, UMod, SRem, LogicalEqual, LogicalNotEqual, LogicalNot, IEqual, INotEqual, UGreaterThan, SGreaterThan, UGreaterThanEqual, SGreaterThanEqual, ULessThan, SLessThan, ULessThanEqual, SLessThanEqual, ShiftRightLogical, ShiftRightArithmetic, ShiftLeftLogical, BitwiseOr, BitwiseXor, BitwiseAnd, Not as NotOp}
use Rattle.spirv_words.specs.declared.images.Instruction.{Instruction}
use Rattle.spirv_words.specs.Machine.{Operand, Plain, Path, InBuffer, if_some}
use Rattle.spirv_words.specs.Step.{State, act, step, chain, same_truth}
use Rattle.spirv_words.specs.Runs.{setting}
use Rattle.flat_values.specs.declared.operators.Unary.TheVariants.{Negate, Not}
use Rattle.flat_values.specs.declared.operators.Binary.{Binary}
use Rattle.flat_values.specs.declared.operators.Binary.TheVariants.{Add, Sub, Mul, UDiv as UDivide, SDiv as SDivide, UMod as UModulo, SRem as SRemainder, ShiftLeft, ShiftRight, ShiftRightSigned, And, Or, Xor, Equal, NotEqual, ULess, ULessEqual, SLess, SLessEqual}
use Rattle.flat_values.specs.Operators.{word_of, binary_of}
use Rattle.run_actions.specs.declared.actions.Action.{Action}
use Rattle.run_actions.specs.Steps.{FlatTurn, IsStuck as IsStuckHere, act as flat_act, flat_step}
use Rattle.image_lookup.specs.Lookups.{operand, is_value}
use Rattle.image_declarations.specs.Reach.{is_id}
use Rattle.image_operands.specs.declared.operators.Numbers.{Numbers}
use Rattle.image_operands.specs.Memory.{is_pointer, chain_end, chain_fits}
use Rattle.image_types.specs.declared.rules.Rule.TheVariants.{Unary as OfUnary, Binary as OfBinary, Shift, Comparison, Logical, Chain}
use Rattle.image_types.specs.Rules.{rule_of}
use Rattle.image_scopes.specs.Runs.{Runs, IsLabel, IsVariable, IsLoad, IsStore, IsChain, IsConstruct, IsExtract, IsBitcast, IsUnary, IsBinary, IsShift, IsComparison, IsLogical, IsNegation, IsLoopMerge, IsSelectionMerge, IsBranch, IsCondition, IsCall, IsReturn, IsReturnValue, IsUnreachable}
use Rattle.image_facts.specs.Operands.{Suits}
use Rattle.flat_values.specs.Ranges.{Stands}
use Rattle.typed_runs.specs.States.{Keeps}
use Rattle.typed_runs.proofs.Types.{five_parts, pointer_not_void}
use Rattle.typed_runs.proofs.Going.{AreSeen, all_seen}
use Rattle.typed_runs.proofs.Operands.{Uses, pointer_of}
use Rattle.typed_runs.proofs.Operators.{rule}
use Rattle.typed_runs.proofs.Composites.{id_is}
use Rattle.typed_runs.proofs.Chains.{chain_keeps}
use Rattle.run_rooms.specs.Rooms.{Rooms}
use Rattle.run_plans.specs.Actions.{act_by, action_of, chain_of}
use Rattle.run_plans.specs.Kinds.{kind_of}
use Rattle.run_plans.specs.Plans.{words_of, AreActions}
use Rattle.run_laws.specs.Laid.{LeadsNear}
use Rattle.run_laws.specs.Together.{IsWord, Together, Follows, StepsTogether}
use Rattle.run_laws.proofs.Writing.{Setup}
use Rattle.run_laws.proofs.Acting.{Ready, at_of, laid_of}
use Rattle.run_laws.proofs.Outer.{More}
use Rattle.run_laws.proofs.Operating.{one_case, binary_case, shift_case, compare_case, turned_case, logical_case, negation_together, bitcast_together}
use Rattle.run_laws.proofs.Moving.{label_together, loop_merge_together, selection_merge_together, branch_together, choice_together}
use Rattle.run_laws.proofs.Memory.{variable_together, load_together, store_together}
use Rattle.run_laws.proofs.Composing.{construct_together, extract_together}
use Rattle.run_laws.proofs.Chains.{variable_chain}
use Rattle.run_laws.proofs.BufferChains.{buffer_chain_case}
use Rattle.run_laws.proofs.Operands.{follows_some, follows_flat}
use Rattle.run_laws.proofs.OuterImage.{more as more_of}
use Rattle.run_laws.proofs.Image.{setup}
use Rattle.run_laws.proofs.Calling.{call_case}
use Rattle.run_laws.proofs.Returning.{return_case, return_value_case}

module _ (code : List Instruction) (L : Rooms) (ids : Ids) (lengths : ℕ → ℕ → ℕ) (counts : List ℕ) (m : Setup code L lengths counts) (more : More code) where
  -- ---- operators

  unary_acts : (s : State) (ws : List ℕ) (op : Op) (t r x : ℕ) → Ready code L ids lengths s ws op (t ∷ r ∷ x ∷ []) → rule_of op ≡ OfUnary
      → Follows code L ids lengths s.place ws (act (setting code ids lengths) op (t ∷ r ∷ x ∷ []) s)
      (flat_act (act_by code L s.place (kind_of op) (t ∷ r ∷ x ∷ [])) (s.place + 1) counts ws)
  unary_acts s ws SNegate t r x a e = one_case code L ids lengths counts m s ws SNegate Negate t r x a e (record { result = record { goes_on = refl; second = refl; valued = refl }; third = refl; fourth = refl })
  unary_acts s ws NotOp t r x a e = one_case code L ids lengths counts m s ws NotOp Not t r x a e (record { result = record { goes_on = refl; second = refl; valued = refl }; third = refl; fourth = refl })
  unary_acts s ws op t r x a e = cc

  binary_acts : (s : State) (ws : List ℕ) (op : Op) (n : Numbers) (t r x y : ℕ) → Ready code L ids lengths s ws op (t ∷ r ∷ x ∷ y ∷ []) → rule_of op ≡ OfBinary n
      → Follows code L ids lengths s.place ws (act (setting code ids lengths) op (t ∷ r ∷ x ∷ y ∷ []) s)
      (flat_act (act_by code L s.place (kind_of op) (t ∷ r ∷ x ∷ y ∷ [])) (s.place + 1) counts ws)
  binary_acts s ws IAdd n t r x y a e =
      binary_case code L ids lengths counts m s ws IAdd n Add t r x y a e (record { result = record { goes_on = refl; second = refl; valued = refl }; third = refl; fourth = refl })
  binary_acts s ws ISub n t r x y a e =
      binary_case code L ids lengths counts m s ws ISub n Sub t r x y a e (record { result = record { goes_on = refl; second = refl; valued = refl }; third = refl; fourth = refl })
  binary_acts s ws IMul n t r x y a e =
      binary_case code L ids lengths counts m s ws IMul n Mul t r x y a e (record { result = record { goes_on = refl; second = refl; valued = refl }; third = refl; fourth = refl })
  binary_acts s ws BitwiseAnd n t r x y a e =
      binary_case code L ids lengths counts m s ws BitwiseAnd n And t r x y a e (record { result = record { goes_on = refl; second = refl; valued = refl }; third = refl; fourth = refl })
  binary_acts s ws BitwiseOr n t r x y a e =
      binary_case code L ids lengths counts m s ws BitwiseOr n Or t r x y a e (record { result = record { goes_on = refl; second = refl; valued = refl }; third = refl; fourth = refl })
  binary_acts s ws BitwiseXor n t r x y a e =
      binary_case code L ids lengths counts m s ws BitwiseXor n Xor t r x y a e (record { result = record { goes_on = refl; second = refl; valued = refl }; third = refl; fourth = refl })
  binary_acts s ws UDiv n t r x y a e =
      binary_case code L ids lengths counts m s ws UDiv n UDivide t r x y a e (record { result = record { goes_on = refl; second = refl; valued = refl }; third = refl; fourth = refl })
  binary_acts s ws SDiv n t r x y a e =
      binary_case code L ids lengths counts m s ws SDiv n SDivide t r x y a e (record { result = record { goes_on = refl; second = refl; valued = refl }; third = refl; fourth = refl })
  binary_acts s ws UMod n t r x y a e =
      binary_case code L ids lengths counts m s ws UMod n UModulo t r x y a e (record { result = record { goes_on = refl; second = refl; valued = refl }; third = refl; fourth = refl })
  binary_acts s ws SRem n t r x y a e =
      binary_case code L ids lengths counts m s ws SRem n SRemainder t r x y a e (record { result = record { goes_on = refl; second = refl; valued = refl }; third = refl; fourth = refl })
  binary_acts s ws op n t r x y a e = cc

  shift_acts : (s : State) (ws : List ℕ) (op : Op) (n : Numbers) (t r x y : ℕ) → Ready code L ids lengths s ws op (t ∷ r ∷ x ∷ y ∷ []) → rule_of op ≡ Shift n
      → Follows code L ids lengths s.place ws (act (setting code ids lengths) op (t ∷ r ∷ x ∷ y ∷ []) s)
      (flat_act (act_by code L s.place (kind_of op) (t ∷ r ∷ x ∷ y ∷ [])) (s.place + 1) counts ws)
  shift_acts s ws ShiftLeftLogical n t r x y a e =
      shift_case code L ids lengths counts m s ws ShiftLeftLogical n ShiftLeft t r x y a e (record { result = record { goes_on = refl; second = refl; valued = refl }; third = refl; fourth = refl })
  shift_acts s ws ShiftRightLogical n t r x y a e =
      shift_case code L ids lengths counts m s ws ShiftRightLogical n ShiftRight t r x y a e (record { result = record { goes_on = refl; second = refl; valued = refl }; third = refl; fourth = refl })
  shift_acts s ws ShiftRightArithmetic n t r x y a e =
      shift_case code L ids lengths counts m s ws ShiftRightArithmetic n ShiftRightSigned t r x y a e (record { result = record { goes_on = refl; second = refl; valued = refl }; third = refl; fourth = refl })
  shift_acts s ws op n t r x y a e = cc

  comparison_acts : (s : State) (ws : List ℕ) (op : Op) (n : Numbers) (t r x y : ℕ) → Ready code L ids lengths s ws op (t ∷ r ∷ x ∷ y ∷ []) → rule_of op ≡ Comparison n
      → Follows code L ids lengths s.place ws (act (setting code ids lengths) op (t ∷ r ∷ x ∷ y ∷ []) s)
      (flat_act (act_by code L s.place (kind_of op) (t ∷ r ∷ x ∷ y ∷ [])) (s.place + 1) counts ws)
  comparison_acts s ws IEqual n t r x y a e =
      compare_case code L ids lengths counts m s ws IEqual n Equal nat_eq t r x y a e (record { result = record { goes_on = refl; second = refl; valued = refl }; third = refl; fourth = refl }) (λ v w. refl)
  comparison_acts s ws INotEqual n t r x y a e =
      compare_case code L ids lengths counts m s ws INotEqual n NotEqual (λ v w. not (nat_eq v w)) t r x y a e (record { result = record { goes_on = refl; second = refl; valued = refl }; third = refl; fourth = refl }) (λ v w. refl)
  comparison_acts s ws ULessThan n t r x y a e =
      compare_case code L ids lengths counts m s ws ULessThan n ULess nat_lt t r x y a e (record { result = record { goes_on = refl; second = refl; valued = refl }; third = refl; fourth = refl }) (λ v w. refl)
  comparison_acts s ws ULessThanEqual n t r x y a e =
      compare_case code L ids lengths counts m s ws ULessThanEqual n ULessEqual nat_le t r x y a e (record { result = record { goes_on = refl; second = refl; valued = refl }; third = refl; fourth = refl }) (λ v w. refl)
  comparison_acts s ws SLessThan n t r x y a e =
      compare_case code L ids lengths counts m s ws SLessThan n SLess word_slt t r x y a e (record { result = record { goes_on = refl; second = refl; valued = refl }; third = refl; fourth = refl }) (λ v w. refl)
  comparison_acts s ws SLessThanEqual n t r x y a e =
      compare_case code L ids lengths counts m s ws SLessThanEqual n SLessEqual word_sle t r x y a e (record { result = record { goes_on = refl; second = refl; valued = refl }; third = refl; fourth = refl }) (λ v w. refl)
  comparison_acts s ws UGreaterThan n t r x y a e =
      turned_case code L ids lengths counts m s ws UGreaterThan n ULess (λ v w. nat_lt w v) t r x y a e (record { result = record { goes_on = refl; second = refl; valued = refl }; third = refl; fourth = refl }) (λ v w. refl)
  comparison_acts s ws UGreaterThanEqual n t r x y a e =
      turned_case code L ids lengths counts m s ws UGreaterThanEqual n ULessEqual (λ v w. nat_le w v) t r x y a e (record { result = record { goes_on = refl; second = refl; valued = refl }; third = refl; fourth = refl }) (λ v w. refl)
  comparison_acts s ws SGreaterThan n t r x y a e =
      turned_case code L ids lengths counts m s ws SGreaterThan n SLess (λ v w. word_slt w v) t r x y a e (record { result = record { goes_on = refl; second = refl; valued = refl }; third = refl; fourth = refl }) (λ v w. refl)
  comparison_acts s ws SGreaterThanEqual n t r x y a e =
      turned_case code L ids lengths counts m s ws SGreaterThanEqual n SLessEqual (λ v w. word_sle w v) t r x y a e (record { result = record { goes_on = refl; second = refl; valued = refl }; third = refl; fourth = refl }) (λ v w. refl)
  comparison_acts s ws op n t r x y a e = cc

  same_words : (v w : Bool) → binary_of Equal (word_of v) (word_of w) ≡ Some (word_of (same_truth v w))
  same_words true true = refl
  same_words true false = refl
  same_words false true = refl
  same_words false false = refl

  other_words : (v w : Bool) → binary_of NotEqual (word_of v) (word_of w) ≡ Some (word_of (not (same_truth v w)))
  other_words true true = refl
  other_words true false = refl
  other_words false true = refl
  other_words false false = refl

  logical_acts : (s : State) (ws : List ℕ) (op : Op) (t r x y : ℕ) → Ready code L ids lengths s ws op (t ∷ r ∷ x ∷ y ∷ []) → rule_of op ≡ Logical
      → Follows code L ids lengths s.place ws (act (setting code ids lengths) op (t ∷ r ∷ x ∷ y ∷ []) s)
      (flat_act (act_by code L s.place (kind_of op) (t ∷ r ∷ x ∷ y ∷ [])) (s.place + 1) counts ws)
  logical_acts s ws LogicalEqual t r x y a e = logical_case code L ids lengths counts m s ws LogicalEqual Equal same_truth t r x y a e (record { result = record { goes_on = refl; second = refl; valued = refl }; third = refl; fourth = refl }) same_words
  logical_acts s ws LogicalNotEqual t r x y a e =
      logical_case code L ids lengths counts m s ws LogicalNotEqual NotEqual (λ v w. not (same_truth v w)) t r x y a e (record { result = record { goes_on = refl; second = refl; valued = refl }; third = refl; fourth = refl }) other_words
  logical_acts s ws op t r x y a e = cc

  -- ---- chains

  chain_case : (s : State) (ws : List ℕ) (t r p of : ℕ) (is : List ℕ) (o : Operand) → Ready code L ids lengths s ws AccessChain (t ∷ r ∷ p ∷ is)
      → Suits code o of → operand code p 0 ≡ of → is_pointer code of ≡ true → is_pointer code t ≡ true → operand code t 1 ≡ operand code of 1
      → chain_end code (operand code of 2) is ≡ Some (operand code t 2) → AreSeen code s.place is
      → LeadsNear code lengths s.place s.below o × Stands (words_of code L o) (L.slot p) ws
      → Keeps code (chain (setting code ids lengths) s r (Some o) is)
      → Follows code L ids lengths s.place ws (chain (setting code ids lengths) s r (Some o) is)
      (flat_act (chain_of code L r p is) (s.place + 1) counts ws)
  chain_case s ws t r p of is (Plain v) a h g from to c e seen near keeps = absurd (m.known.facts.no_pointer of h.has_values from)
  chain_case s ws t r p of is (Path root path) a h g from to c e seen near keeps =
      variable_chain code L ids lengths counts m s ws t r p is root path of h a g to c e seen near keeps
  chain_case s ws t r p of is (InBuffer set binding byte form) a h g from to c e seen near keeps =
      buffer_chain_case code L ids lengths counts m s ws t r p of set binding byte is form a h g to c e seen near.0 near.1

  chain_acts : (s : State) (ws : List ℕ) (t r p : ℕ) (is : List ℕ) → Ready code L ids lengths s ws AccessChain (t ∷ r ∷ p ∷ is)
      → Follows code L ids lengths s.place ws (chain (setting code ids lengths) s r (s.ids p) is)
      (flat_act (chain_of code L r p is) (s.place + 1) counts ws)
  unfolding chain_fits
  chain_acts s ws t r p is a =
      let at = at_of code L ids lengths counts m s ws AccessChain (t ∷ r ∷ p ∷ is) a in
      let of : ℕ = operand code p 0 in
      let all = five_parts (is_pointer code t) (is_value code p) (is_pointer code of) (nat_eq (operand code t 1) (operand code of 1))
      (is_id (chain_end code (operand code of 2) is) (operand code t 2)) (rule code m.known.facts s AccessChain (t ∷ r ∷ p ∷ is) Chain at refl) in
      let u : Uses AccessChain (t ∷ r ∷ p ∷ is) 2 p = record { stands = refl; role = refl } in
      let o = pointer_of code m.known.facts s AccessChain (t ∷ r ∷ p ∷ is) 2 p of at u all.1 refl all.2 in
      let near = laid_of code L ids lengths counts m s ws AccessChain (t ∷ r ∷ p ∷ is) 2 p o.0 a u all.1 (pointer_not_void code m.known.facts of all.2) o.1 in
      let seen = all_seen code m.known.facts s AccessChain t r (p ∷ is) at refl refl refl in
      let keeps = subst (λ (x : Option Operand). Keeps code (chain (setting code ids lengths) s r x is)) o.1
      (chain_keeps code m.known.facts ids lengths s t r p is at) in
      subst (λ (x : Option Operand). Follows code L ids lengths s.place ws (chain (setting code ids lengths) s r x is)
      (flat_act (chain_of code L r p is) (s.place + 1) counts ws)) (sym o.1)
      (chain_case s ws t r p of is o.0 a o.2 refl all.2 all.0 (eqb-true (operand code t 1) (operand code of 1) all.3)
      (id_is (chain_end code (operand code of 2) is) (operand code t 2) all.4) (λ j x e v. seen (suc j) x e v) near keeps)

  -- ---- each instruction

  acts : (s : State) (ws : List ℕ) (op : Op) (os : List ℕ) → Runs op os → Ready code L ids lengths s ws op os
      → Follows code L ids lengths s.place ws (act (setting code ids lengths) op os s) (flat_act (act_by code L s.place (kind_of op) os) (s.place + 1) counts ws)
  acts s ws op os (IsLabel r) a = label_together code L ids lengths counts m s ws r a
  acts s ws op os (IsVariable t r class) a = variable_together code L ids lengths counts m s ws t r class a
  acts s ws op os (IsLoad t r p) a = load_together code L ids lengths counts m s ws t r p a
  acts s ws op os (IsStore p v) a = store_together code L ids lengths counts m s ws p v a
  acts s ws op os (IsChain t r p is) a = chain_acts s ws t r p is a
  acts s ws op os (IsConstruct t r is) a = construct_together code L ids lengths counts m s ws t r is a
  acts s ws op os (IsExtract t r x path) a = extract_together code L ids lengths counts m s ws t r x path a
  acts s ws op os (IsBitcast t r x) a = bitcast_together code L ids lengths counts m s ws t r x a
  acts s ws op os (IsUnary op' t r x e) a = unary_acts s ws op' t r x a e
  acts s ws op os (IsBinary op' n t r x y e) a = binary_acts s ws op' n t r x y a e
  acts s ws op os (IsShift op' n t r x y e) a = shift_acts s ws op' n t r x y a e
  acts s ws op os (IsComparison op' n t r x y e) a = comparison_acts s ws op' n t r x y a e
  acts s ws op os (IsLogical op' t r x y e) a = logical_acts s ws op' t r x y a e
  acts s ws op os (IsNegation t r x) a = negation_together code L ids lengths counts m s ws t r x a
  acts s ws op os (IsLoopMerge merge continue control) a = loop_merge_together code L ids lengths counts m s ws (merge ∷ continue ∷ control ∷ []) a
  acts s ws op os (IsSelectionMerge merge control) a = selection_merge_together code L ids lengths counts m s ws (merge ∷ control ∷ []) a
  acts s ws op os (IsBranch l) a = branch_together code L ids lengths counts m s ws l a
  acts s ws op os (IsCondition c one other) a = choice_together code L ids lengths counts m s ws c one other a
  acts s ws op os (IsCall t r f arguments) a = call_case code L ids lengths counts m more s ws t r f arguments a
  acts s ws op os IsReturn a = return_case code L ids lengths counts m s ws a
  acts s ws op os (IsReturnValue v) a = return_value_case code L ids lengths counts m more s ws v a
  acts s ws op os IsUnreachable a = tt

  here : (s : State) (ws : List ℕ) (actions : List Action) → AreActions code L actions → AllByRecursion IsWord ws
      → Together code L ids lengths s s.place ws
      → Follows code L ids lengths s.place ws (step (setting code ids lengths) s) (flat_step actions counts s.place ws)
  here s ws actions are words t =
      let run = t.typed.run in
      let i : Instruction = run.instruction in
      follows_some code L ids lengths s.place ws (slice_get code s.place) i (λ j. act (setting code ids lengths) j.op j.operands s)
      (flat_step actions counts s.place ws) run.stands
      (follows_flat code L ids lengths s.place ws (act (setting code ids lengths) i.op i.operands s) _ _
      (ap (λ o. if_some o IsStuckHere (λ b. flat_act b (s.place + 1) counts ws)) (are.each s.place i run.stands))
      (acts s ws i.op i.operands (m.known.facts.runs s.place i run run.stands) (record { together = t; stands = run.stands; are_words = words })))

  pub steps_together : (s : State) (place : ℕ) (ws : List ℕ) (actions : List Action) → AreActions code L actions → AllByRecursion IsWord ws
      → Together code L ids lengths s place ws
      → Follows code L ids lengths place ws (step (setting code ids lengths) s) (flat_step actions counts place ws)
  steps_together s place ws actions are words t =
      subst (λ (p : ℕ). Together code L ids lengths s p ws
      → Follows code L ids lengths p ws (step (setting code ids lengths) s) (flat_step actions counts p ws)) (sym t.same) (here s ws actions are words) t

pub machines_step : StepsTogether
machines_step image L actions ids lengths counts s place ws p have words t =
    steps_together image.instructions L ids lengths counts (setup image L actions lengths counts p have) (more_of image p.valid) s place ws actions p.are words t
