use Rattle.std.proofs.Common.{◌≡◌, ℕ, List, Vec, ap, sym, ◌∙◌}
use Rattle.std.proofs.lemmas.Result.{IfOk-weaker}
use Rattle.call_graph.specs.Edges.{listed, callees}
use Rattle.call_graph.specs.Order.{callers}
use Rattle.call_graph.proofs.Calling.{turned-callees}
use Rattle.call_graph.proofs.ordering.callers.Goals as goal

pub returns : goal.returns
returns c =
    let es = c.as_slice.ensures.value ∙ c.in_ok-turned.ensures in
    IfOk-weaker c.callees.result (λ map. (id : ℕ) → listed map id ≡ callees c.as_slice.result.now id) (λ map. (id : ℕ) → listed map id ≡ callers c.args.edges.now id)
    (λ map h id. h id ∙ ap (λ (l : List (ℕ × ℕ)). callees l id) es ∙ turned-callees c.args.edges.now id)
    c.callees.ensures
