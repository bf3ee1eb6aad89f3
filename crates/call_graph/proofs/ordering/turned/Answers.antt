use Rattle.std.proofs.Common.{ℕ, List, ◌++◌, ◌∷◌, [], ap, sym, ◌∙◌}
use Rattle.call_graph.proofs.Calling.{turned-more}
use Rattle.call_graph.proofs.ordering.turned.Goals as goal

pub loop-caller-preserved : goal.loop-caller-preserved
loop-caller-preserved c =
    let e = Rattle.std.proofs.Common.get_or c.args.edges.now c.loop-caller.caller-index (0, 0) in
    c.in_ok-push.ensures.items ∙ ap (λ (l : List (ℕ × ℕ)). l ++ (e.1, e.0) ∷ []) c.loop-caller.invariant
    ∙ sym (turned-more c.args.edges.now c.loop-caller.caller-index (0, 0) c.loop-caller-test.true)
