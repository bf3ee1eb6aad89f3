use Rattle.std.proofs.Common.{◌≡◌, ◌∙◌, ℕ, true, false, List, None, sym, ap, subst, arith, below_more}
use Rattle.spirv_words.specs.declared.images.Instruction.{Instruction}
use Rattle.spirv_words.specs.Runs.{entry_of}
use Rattle.image_calls.specs.Edges.{open_after, edge_of, calls}
use Rattle.image_calls.specs.Arguments.{is_bad}
use Rattle.image_calls.specs.Calls.{LeadsBack, inside_at}
use Rattle.image_calls.proofs.Callers.{inside-more, right-call}
use Rattle.image_calls.proofs.checking.first_wrong.Goals as goal

apart : {A : Type 0} → true ≡ false → A
apart h = cc

pub loop-number-preserved : goal.loop-number-preserved
loop-number-preserved c =
    let code = c.args.code.now in
    let k = c.loop-number.number in
    let i = c.index-code-number.result in
    let lt = c.loop-number-test.true in
    let item = c.index-code-number.is in
    let v = c.loop-number.invariant in
    let told = c.is_bad.ensures ∙ ap (λ (code : List Instruction). is_bad code c.entry_of-entry.result i) c.requires ∙ ap (λ e. is_bad code e i) c.entry_of-entry.ensures in
    let bad : is_bad code (entry_of code) i ≡ true → ⊥ = λ e. apart (sym e ∙ sym told ∙ c.if-is_bad.false) in
    let edges = c.as_slice-else-is_bad.ensures.value ∙ c.in_ok-edges.ensures in
    let edge = c.edge_of-edge.ensures ∙ ap (edge_of i) v.0 in
    let back : LeadsBack (calls None code) (edge_of i (inside_at code k)) → ⊥ = λ l.
    apart (sym (c.in_ok-leads_back.ensures.1 (subst (λ e. LeadsBack c.as_slice-else-is_bad.result.now e) (sym edge) (subst (λ (es : List (ℕ × ℕ)). LeadsBack es (edge_of i (inside_at code k))) (sym edges) l))) ∙ c.if-branch.false) in (
      c.open_after-inside.ensures ∙ ap (open_after i) v.0 ∙ sym (inside-more code k i lt item),
      below_more _ _ v.1 (right-call code k i lt item bad back),
    )

pub returns : goal.returns
returns c = λ k lt. c.loop-number.invariant.1 k (omega (arith, lt, c.loop-number-test.false))
