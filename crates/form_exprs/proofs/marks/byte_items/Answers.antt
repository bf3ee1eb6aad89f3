use Rattle.std.proofs.lemmas.Result.{err_from_is_err_and}
use Rattle.form_grammar.specs.Trees.{byte}
use Rattle.form_grammar.specs.Grammar as form
use Rattle.form_grammar.specs.Reading.{form_at, nested_at}
use Rattle.form_grammar.proofs.Loops.{begins, goes_on, fails, is_done}
use Rattle.form_exprs.proofs.marks.byte_items.Goals as goal

pub loop-init : goal.loop-init
loop-init c = rw c.new-items.ensures (begins (λ n. byte n) (form_at (nested_at c.args.level.depth) (form.range 0 255)) c.args.count c.args.bytes.now)

pub returns-in_err-item : goal.returns-in_err-item
returns-in_err-item c =
    let p = err_from_is_err_and c.from_residual.result c.from_residual.ensures.1 in
    rw (p.1, p.2) (fails (λ n. byte n) (form_at (nested_at c.args.level.depth) (form.range 0 255)) c.args.count _ c.in_err-item.field-0.0 c.loop.items c.loop.counter c.loop.rest.now c.loop-test.true c.in_err-item.ensures c.loop.invariant)

pub loop-preserved : goal.loop-preserved
loop-preserved c =
    rw c.in_ok-push.ensures.ok (goes_on (λ n. byte n) (form_at (nested_at c.args.level.depth) (form.range 0 255)) c.args.count _ c.loop.items c.loop.counter c.loop.rest.now c.in_ok-item.after.now c.in_ok-item.item c.loop-test.true c.in_ok-item.ensures c.loop.invariant)

pub returns : goal.returns
returns c = is_done (λ n. byte n) (form_at (nested_at c.args.level.depth) (form.range 0 255)) c.args.count _ c.loop.items c.loop.counter c.loop.rest.now c.loop-test.false c.loop.invariant
