use Rattle.std.proofs.Common.{ℕ, cond, nat_eq, get_or, ◌++◌, ◌∷◌, [], List, sym, ◌∙◌, ap}
use Rattle.call_graph.proofs.Walks.{callees-more}
use Rattle.call_graph.proofs.edges.callees.Goals as goal

pub loop-caller-preserved : goal.loop-caller-preserved
loop-caller-preserved c = λ id.
    let e = get_or c.args.edges.now c.loop-caller.caller-index (0, 0) in
    c.in_ok-add_callee.ensures id
    ∙ ap (λ (l : List ℕ). cond (nat_eq e.0 id) (l ++ e.1 ∷ []) l) (c.loop-caller.invariant id)
    ∙ sym (callees-more c.args.edges.now c.loop-caller.caller-index (0, 0) id c.loop-caller-test.true)
