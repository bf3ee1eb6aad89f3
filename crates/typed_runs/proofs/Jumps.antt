-- Labels, merges and branches lead on in the same function.
use Rattle.std.proofs.Common.{◌≡◌, ℕ, Bool, true, false, cond, List, [], ◌∷◌, Some, refl, sym, subst}
use Rattle.std.proofs.lemmas.Bool.{and_parts}
use Rattle.spirv_words.specs.declared.opcodes.Op.TheVariants.{LoopMerge, SelectionMerge, Label, Branch, BranchConditional}
use Rattle.spirv_words.specs.declared.images.Instruction.{Instruction}
use Rattle.spirv_words.specs.Machine.{result_of, place_of}
use Rattle.spirv_words.specs.Step.{State, Setting, Goes, goes_to, jump, act}
use Rattle.spirv_words.specs.Runs.{setting}
use Rattle.behavior.specs.Meanings.{Ids}
use Rattle.image_lookup.specs.Lookups.{operand, is_value}
use Rattle.image_lookup.specs.Sorts.{is_value_sort}
use Rattle.image_operands.specs.Operators.{is_bool, condition_fits}
use Rattle.image_types.specs.declared.rules.Rule.TheVariants.{Condition}
use Rattle.image_scopes.specs.Facts.{Target}
use Rattle.typed_runs.specs.States.{AreFrames, IsTyped, Keeps}
use Rattle.typed_runs.proofs.Facts.{Facts}
use Rattle.typed_runs.proofs.Going.{At, goes, made_sort}
use Rattle.typed_runs.proofs.Operands.{keeps_some, keeps_truth, truth_of}
use Rattle.typed_runs.proofs.Operators.{rule}

module _ (code : List Instruction) (facts : Facts code) where
  -- a Label is no value
  no_value : (s : State) (r x : ℕ) → At code s Label (r ∷ []) → result_of Label (r ∷ []) ≡ Some x → is_value code x ≡ true → ⊥
  no_value s r x a e v =
      let i : Instruction = record { op = Label; operands = r ∷ [] } in
      let p = facts.here s.place i a.stands x e in
      let k : false ≡ true = subst (λ y. is_value_sort y ≡ true) (made_sort code s.place x i a.stands p) v in
      cc

  pub label_keeps : (m : Setting) (s : State) (r : ℕ) → At code s Label (r ∷ []) → Keeps code (act m Label (r ∷ []) s)
  label_keeps m s r a = goes code facts s Label (r ∷ []) a refl (λ x. no_value s r x a) s.memory a.typed.held

  pub loop_merge_keeps : (m : Setting) (s : State) (os : List ℕ) → At code s LoopMerge os → Keeps code (act m LoopMerge os s)
  loop_merge_keeps m s os a = goes code facts s LoopMerge os a refl (λ x e v. cc) s.memory a.typed.held

  pub selection_merge_keeps : (m : Setting) (s : State) (os : List ℕ) → At code s SelectionMerge os → Keeps code (act m SelectionMerge os s)
  selection_merge_keeps m s os a = goes code facts s SelectionMerge os a refl (λ x e v. cc) s.memory a.typed.held

  module _ (ids : Ids) (lengths : ℕ → ℕ → ℕ) where
    jumps : (s : State) (l : ℕ) → IsTyped code s → Target code s.place l → Keeps code (jump (setting code ids lengths) s l)
    jumps s l typed t =
        keeps_some code (place_of code l 0) t.place (λ p. Goes (goes_to s p)) t.there
        (record {
          run = t.run;
          named = λ x q. typed.named x (t.seen x q);
          declared = typed.declared;
          held = typed.held;
          frames = subst (λ f. AreFrames code f s.below) (sym t.same_function) typed.frames;
        })

    pub branch_keeps : (s : State) (l : ℕ) → At code s Branch (l ∷ []) → Keeps code (act (setting code ids lengths) Branch (l ∷ []) s)
    branch_keeps s l a = jumps s l a.typed (facts.branch s.place l a.typed.run a.stands)

    pub choice_keeps : (s : State) (c one other : ℕ) → At code s BranchConditional (c ∷ one ∷ other ∷ [])
        → Keeps code (act (setting code ids lengths) BranchConditional (c ∷ one ∷ other ∷ []) s)
    unfolding condition_fits
    choice_keeps s c one other a =
        let t = facts.choice s.place c one other a.typed.run a.stands in
        let both = and_parts (is_value code c) (is_bool code (operand code c 0)) (rule code facts s BranchConditional (c ∷ one ∷ other ∷ []) Condition a refl) in
        let b = truth_of code facts s BranchConditional (c ∷ one ∷ other ∷ []) 0 c (operand code c 0) a (record { stands = refl; role = refl }) both.0 refl both.1 in
        keeps_truth code (s.ids c) b.0 (λ b. jump (setting code ids lengths) s (cond b one other)) b.1 (either b.0 t.0 t.1)
      where
        either : (b : Bool) → Target code s.place one → Target code s.place other → Keeps code (jump (setting code ids lengths) s (cond b one other))
        either true t u = jumps s one a.typed t
        either false t u = jumps s other a.typed u
