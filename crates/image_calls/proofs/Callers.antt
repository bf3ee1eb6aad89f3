-- One instruction further on the way through an image.
use Rattle.std.proofs.Common.{◌≡◌, ℕ, ◌+◌, ◌<◌, true, List, length, get_or, None, sym, ◌∙◌, ap, subst}
use Rattle.std.proofs.lemmas.List.Sums.{fold_more}
use Rattle.std.proofs.lemmas.Option.{get_or_from_slice_get}
use Rattle.std.proofs.Math.Logic.{⊎_elim}
use Rattle.spirv_words.specs.declared.images.Instruction.{Instruction}
use Rattle.spirv_words.specs.Runs.{entry_of}
use Rattle.image_calls.specs.Edges.{open_after, edge_of, calls}
use Rattle.image_calls.specs.Arguments.{is_bad}
use Rattle.image_calls.specs.Calls.{LeadsBack, inside_at, IsWrongCall, HasWrongCall}

module _ (code : List Instruction) (k : ℕ) (i : Instruction) (lt : k < length code) (item : i ≡ get_or code k i) where
  pub inside-more : inside_at code (k + 1) ≡ open_after i (inside_at code k)
  inside-more = fold_more (λ inside i. open_after i inside) None code k i lt ∙ ap (λ (x : Instruction). open_after x (inside_at code k)) (sym item)

  -- the instruction is right
  pub right-call : (is_bad code (entry_of code) i ≡ true → ⊥) → (LeadsBack (calls None code) (edge_of i (inside_at code k)) → ⊥) → HasWrongCall code k → ⊥
  right-call bad back (j, there, wrong) =
      let same : j ≡ i = sym (get_or_from_slice_get code k j i there) ∙ sym item in
      ⊎_elim bad back (subst (λ (x : Instruction). IsWrongCall code k x) same wrong)
