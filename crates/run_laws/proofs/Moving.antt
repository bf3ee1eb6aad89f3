-- Labels, merges, jumps and choices lead both machines on to one place.
use Rattle.std.proofs.Common.{◌≡◌, ℕ, suc, ◌+◌, Bool, true, false, cond, nat_eq, List, [], ◌∷◌, Option, Some, None, refl, sym, ap, subst, ◌∙◌}
use Rattle.std.proofs.lemmas.Bool.{and_parts}
use Rattle.behavior.specs.Meanings.{Ids}
use Rattle.spirv_words.specs.declared.opcodes.Op.{Op}
use Rattle.spirv_words.specs.declared.opcodes.Op.TheVariants.{Label, LoopMerge, SelectionMerge, Branch, BranchConditional}
use Rattle.spirv_words.specs.declared.images.Instruction.{Instruction}
use Rattle.spirv_words.specs.Machine.{place_of, result_of, if_some}
use Rattle.spirv_words.specs.Step.{State, Turn, Goes, next, goes_to, jump, with_truth, with_some, act}
use Rattle.spirv_words.specs.Runs.{setting}
use Rattle.flat_values.specs.Operators.{word_of}
use Rattle.run_actions.specs.declared.actions.Action.{Action}
use Rattle.run_actions.specs.declared.actions.Action.TheVariants.{Jump, Choose, Never}
use Rattle.run_actions.specs.Steps.{FlatTurn, Goes as GoesTo, act as flat_act, choose}
use Rattle.action_laws.proofs.Calls.{chosen_is}
use Rattle.image_lookup.specs.Lookups.{operand, is_value}
use Rattle.image_lookup.specs.Sorts.{is_value_sort}
use Rattle.image_operands.specs.Operators.{is_bool, condition_fits}
use Rattle.image_types.specs.declared.rules.Rule.TheVariants.{Condition}
use Rattle.image_scopes.specs.Facts.{Target}
use Rattle.typed_runs.specs.States.{IsTyped, AreFrames, Keeps}
use Rattle.typed_runs.proofs.Going.{At, made_sort}
use Rattle.typed_runs.proofs.Operators.{rule}
use Rattle.typed_runs.proofs.Jumps.{label_keeps, loop_merge_keeps, selection_merge_keeps, branch_keeps}
use Rattle.run_rooms.specs.Rooms.{Rooms}
use Rattle.run_plans.specs.Actions.{jump_to}
use Rattle.run_laws.specs.Together.{Together, Follows}
use Rattle.run_laws.proofs.Writing.{Setup, holds_moves}
use Rattle.run_laws.proofs.Acting.{Ready, at_of, holds_of, together_from, goes_together}
use Rattle.run_laws.proofs.Operands.{follows_truth, follows_some, follows_flat, IsTruthThere, truth_there}

module _ (code : List Instruction) (L : Rooms) (ids : Ids) (lengths : ℕ → ℕ → ℕ) (counts : List ℕ) (m : Setup code L lengths counts) where
  -- a Label is no value
  no_value : (s : State) (ws : List ℕ) (r x : ℕ) → Ready code L ids lengths s ws Label (r ∷ []) → result_of Label (r ∷ []) ≡ Some x → is_value code x ≡ true → ⊥
  no_value s ws r x a e v =
      let i : Instruction = record { op = Label; operands = r ∷ [] } in
      let p = m.known.facts.here s.place i a.stands x e in
      let k : false ≡ true = subst (λ y. is_value_sort y ≡ true) (made_sort code s.place x i a.stands p) v in
      cc

  pub label_together : (s : State) (ws : List ℕ) (r : ℕ) → Ready code L ids lengths s ws Label (r ∷ [])
      → Together code L ids lengths (next s) (s.place + 1) ws
  label_together s ws r a =
      goes_together code L ids lengths counts m s ws Label (r ∷ []) (s.place + 1) a refl (λ x. no_value s ws r x a)
      (label_keeps code m.known.facts (setting code ids lengths) s r (at_of code L ids lengths counts m s ws Label (r ∷ []) a)) refl

  pub loop_merge_together : (s : State) (ws os : List ℕ) → Ready code L ids lengths s ws LoopMerge os → Together code L ids lengths (next s) (s.place + 1) ws
  loop_merge_together s ws os a =
      goes_together code L ids lengths counts m s ws LoopMerge os (s.place + 1) a refl (λ x e v. cc)
      (loop_merge_keeps code m.known.facts (setting code ids lengths) s os (at_of code L ids lengths counts m s ws LoopMerge os a)) refl

  pub selection_merge_together : (s : State) (ws os : List ℕ) → Ready code L ids lengths s ws SelectionMerge os → Together code L ids lengths (next s) (s.place + 1) ws
  selection_merge_together s ws os a =
      goes_together code L ids lengths counts m s ws SelectionMerge os (s.place + 1) a refl (λ x e v. cc)
      (selection_merge_keeps code m.known.facts (setting code ids lengths) s os (at_of code L ids lengths counts m s ws SelectionMerge os a)) refl

  -- ---- jumps

  jumped : (s : State) (ws : List ℕ) (op : Op) (os : List ℕ) (l : ℕ) (t : Target code s.place l) → Ready code L ids lengths s ws op os
      → IsTyped code (goes_to s t.place) → Together code L ids lengths (goes_to s t.place) t.place ws
  jumped s ws op os l t a typed =
      together_from code L ids lengths (goes_to s t.place) t.place ws refl typed
      (holds_moves code L ids lengths s.place t.place s.ids s.below s.memory ws (sym t.same_function) (λ x v q. t.seen x q)
      (holds_of code L ids lengths s s.place ws a.together))

  at_label : (l : ℕ) (t : Option ℕ) (p : ℕ) (go : ℕ → Action) → t ≡ Some p → if_some t Never go ≡ go p
  at_label l t p go e = ap (λ o. if_some o Never go) e

  pub branch_together : (s : State) (ws : List ℕ) (l : ℕ) → Ready code L ids lengths s ws Branch (l ∷ [])
      → Follows code L ids lengths s.place ws (jump (setting code ids lengths) s l) (flat_act (jump_to code L l (λ p. Jump p)) (s.place + 1) counts ws)
  branch_together s ws l a =
      let t = m.known.facts.branch s.place l a.together.typed.run a.stands in
      let keeps = branch_keeps code m.known.facts ids lengths s l (at_of code L ids lengths counts m s ws Branch (l ∷ []) a) in
      let typed = subst (λ (o : Option ℕ). Keeps code (with_some o (λ p. Goes (goes_to s p)))) t.there keeps in
      follows_some code L ids lengths s.place ws (place_of code l 0) t.place (λ p. Goes (goes_to s p)) (flat_act (jump_to code L l (λ p. Jump p)) (s.place + 1) counts ws) t.there
      (follows_flat code L ids lengths s.place ws (Goes (goes_to s t.place)) _ (GoesTo t.place ws)
      (ap (λ c. flat_act c (s.place + 1) counts ws) (at_label l (place_of code l 0) t.place (λ p. Jump p) t.there))
      (jumped s ws Branch (l ∷ []) l t a typed))

  -- ---- choices

  typed_there : (s : State) (l : ℕ) (t : Target code s.place l) → IsTyped code s → IsTyped code (goes_to s t.place)
  typed_there s l t typed = record {
    run = t.run;
    named = λ x q. typed.named x (t.seen x q);
    declared = typed.declared;
    held = typed.held;
    frames = subst (λ (f : ℕ). AreFrames code f s.below) (sym t.same_function) typed.frames;
  }

  chosen_by : (s : State) (ws : List ℕ) (op : Op) (os : List ℕ) (one other : ℕ) (b : Bool) (t : Target code s.place one) (u : Target code s.place other)
      → Ready code L ids lengths s ws op os
      → Follows code L ids lengths s.place ws (jump (setting code ids lengths) s (cond b one other)) (GoesTo (cond (nat_eq (word_of b) 0) u.place t.place) ws)
  chosen_by s ws op os one other true t u a =
      follows_some code L ids lengths s.place ws (place_of code one 0) t.place (λ p. Goes (goes_to s p)) (GoesTo t.place ws) t.there
      (jumped s ws op os one t a (typed_there s one t a.together.typed))
  chosen_by s ws op os one other false t u a =
      follows_some code L ids lengths s.place ws (place_of code other 0) u.place (λ p. Goes (goes_to s p)) (GoesTo u.place ws) u.there
      (jumped s ws op os other u a (typed_there s other u a.together.typed))

  pub choice_together : (s : State) (ws : List ℕ) (c one other : ℕ) → Ready code L ids lengths s ws BranchConditional (c ∷ one ∷ other ∷ [])
      → Follows code L ids lengths s.place ws (with_truth (s.ids c) (λ b. jump (setting code ids lengths) s (cond b one other)))
      (flat_act (jump_to code L one (λ p. jump_to code L other (λ q. Choose (L.slot c) p q))) (s.place + 1) counts ws)
  unfolding condition_fits
  choice_together s ws c one other a =
      let at = at_of code L ids lengths counts m s ws BranchConditional (c ∷ one ∷ other ∷ []) a in
      let t = m.known.facts.choice s.place c one other a.together.typed.run a.stands in
      let both = and_parts (is_value code c) (is_bool code (operand code c 0)) (rule code m.known.facts s BranchConditional (c ∷ one ∷ other ∷ []) Condition at refl) in
      let b = truth_there code L ids lengths counts m s ws BranchConditional (c ∷ one ∷ other ∷ []) 0 c (operand code c 0) a (record { stands = refl; role = refl }) both.0 refl both.1 in
      follows_truth code L ids lengths s.place ws (s.ids c) b.truth (λ b. jump (setting code ids lengths) s (cond b one other))
      (flat_act (jump_to code L one (λ p. jump_to code L other (λ q. Choose (L.slot c) p q))) (s.place + 1) counts ws) b.is
      (follows_flat code L ids lengths s.place ws (jump (setting code ids lengths) s (cond b.truth one other)) _
      (GoesTo (cond (nat_eq (word_of b.truth) 0) t.1.place t.0.place) ws)
      (ap (λ x. flat_act x (s.place + 1) counts ws)
      (at_label one (place_of code one 0) t.0.place (λ p. jump_to code L other (λ q. Choose (L.slot c) p q)) t.0.there
      ∙ at_label other (place_of code other 0) t.1.place (λ q. Choose (L.slot c) t.0.place q) t.1.there)
      ∙ chosen_is ws (L.slot c) t.0.place t.1.place (word_of b.truth) b.stands)
      (chosen_by s ws BranchConditional (c ∷ one ∷ other ∷ []) one other b.truth t.0 t.1 a))
