use Rattle.std.proofs.Common.{◌≡◌, ◌+◌, ◌++◌, List, [], None, drop, slice_index_or, sym, ap, ◌∙◌, arith}
use Rattle.std.proofs.lemmas.List.{append-nil}
use Rattle.run_actions.specs.declared.actions.Move.{Move}
use Rattle.run_plans.specs.Ground.{rooms_of}
use Rattle.run_plans.specs.Actions.{passed}
use Rattle.run_plans.specs.Calls.{given_at}
use Rattle.run_plans.proofs.Chained.{dropped}
use Rattle.run_plans.proofs.Passed.{passed_ends}
use Rattle.run_plans.proofs.calls.passed.Goals as goal

pub returns-in-None : goal.returns-in-None
returns-in-None c =
    let code = c.args.places.now.places.code in
    let L = rooms_of c.args.places.now in
    let xs = c.args.arguments.now in
    let k = c.loop-argument.argument-index in
    let at = c.loop-argument.at in
    let none : given_at code at ≡ None = sym c.given_at.ensures ∙ c.in-None.is in
    let ends : passed code L (drop k xs) at ≡ [] = ap (λ (ys : List _). passed code L ys at) (dropped xs k c.loop-argument-test.true)
    ∙ passed_ends code L (slice_index_or xs k 0) (drop (k + 1) xs) at none in
    c.from_vec.ensures ∙ sym (append-nil c.loop-argument.parts.items) ∙ ap (λ (ms : List Move). c.loop-argument.parts.items ++ ms) (sym ends)
    ∙ c.loop-argument.invariant.0

pub overflow_add-at : goal.overflow_add-at
overflow_add-at c =
    let here = c.loop-argument.invariant.1 in
    let fits = c.requires.near in
    let more = c.loop-argument-test.true in
    omega (arith, here, fits, more)
