use Rattle.std.proofs.Common.{arith, rules}
use Rattle.std.proofs.lemmas.Result.{err_from_is_err_and}
use Rattle.form_grammar.specs.Trees.{nested}
use Rattle.form_grammar.specs.Grammar as form
use Rattle.form_grammar.specs.Numbers.{after}
use Rattle.form_grammar.specs.Reading.{form_at, nested_at}
use Rattle.form_grammar.proofs.Loops.{begins, goes_on, fails, is_done}
use Rattle.form_grammar.proofs.Nested.{nested_none, nested_full, nested_more}
use Rattle.slang_core.specs.BodyTrees.{expr_tree, given_tree}
use Rattle.form_exprs.proofs.exprs.+expr.Goals as goal

pub expr_of-returns-then-bytes-eq0 : goal.expr_of-returns-then-bytes-eq0
expr_of-returns-then-bytes-eq0 t c = rw c.short.ensures (nested_none c.args.level.depth form.Expr c.args.bytes.now c.if-bytes-eq0.true)

pub expr_of-returns-then-level-eq0 : goal.expr_of-returns-then-level-eq0
expr_of-returns-then-level-eq0 t c = rw c.refused.ensures (nested_full c.args.level.depth form.Expr c.args.bytes.now c.if-level-eq0.true (omega arith))

pub expr_of-returns : goal.expr_of-returns
expr_of-returns t c = rw (nested_more c.args.level.depth form.Expr c.args.bytes.now (omega arith)) c.expr_body.ensures

pub place_of-returns-then-bytes-eq0 : goal.place_of-returns-then-bytes-eq0
place_of-returns-then-bytes-eq0 t c = rw c.short.ensures (nested_none c.args.level.depth form.Place c.args.bytes.now c.if-bytes-eq0.true)

pub place_of-returns-then-level-eq0 : goal.place_of-returns-then-level-eq0
place_of-returns-then-level-eq0 t c = rw c.refused.ensures (nested_full c.args.level.depth form.Place c.args.bytes.now c.if-level-eq0.true (omega arith))

pub place_of-returns : goal.place_of-returns
place_of-returns t c = rw (nested_more c.args.level.depth form.Place c.args.bytes.now (omega arith)) c.place_body.ensures

pub expr_items-loop-init : goal.expr_items-loop-init
expr_items-loop-init t c = rw c.new-items.ensures (begins (λ x. nested (expr_tree x)) (form_at (nested_at c.args.level.depth) (form.part form.Expr)) c.args.count c.args.bytes.now)

pub expr_items-returns-in_err-item : goal.expr_items-returns-in_err-item
expr_items-returns-in_err-item t c =
    let p = err_from_is_err_and c.from_residual.result c.from_residual.ensures.1 in
    rw (p.1, p.2) (fails (λ x. nested (expr_tree x)) (form_at (nested_at c.args.level.depth) (form.part form.Expr)) c.args.count _ c.in_err-item.field-0.0 c.loop.items c.loop.counter c.loop.rest.now c.loop-test.true c.in_err-item.ensures c.loop.invariant)

pub expr_items-loop-preserved : goal.expr_items-loop-preserved
expr_items-loop-preserved t c =
    rw c.in_ok-push.ensures.ok (goes_on (λ x. nested (expr_tree x)) (form_at (nested_at c.args.level.depth) (form.part form.Expr)) c.args.count _ c.loop.items c.loop.counter c.loop.rest.now c.in_ok-item.after.now c.in_ok-item.item c.loop-test.true c.in_ok-item.ensures c.loop.invariant)

pub expr_items-returns : goal.expr_items-returns
expr_items-returns t c = is_done (λ x. nested (expr_tree x)) (form_at (nested_at c.args.level.depth) (form.part form.Expr)) c.args.count _ c.loop.items c.loop.counter c.loop.rest.now c.loop-test.false c.loop.invariant

pub given_items-loop-init : goal.given_items-loop-init
given_items-loop-init t c = rw c.new-items.ensures (begins given_tree (form_at (nested_at c.args.level.depth) form.given) c.args.count c.args.bytes.now)

pub given_items-returns-in_err-item : goal.given_items-returns-in_err-item
given_items-returns-in_err-item t c =
    let p = err_from_is_err_and c.from_residual.result c.from_residual.ensures.1 in
    rw (p.1, p.2) (fails given_tree (form_at (nested_at c.args.level.depth) form.given) c.args.count _ c.in_err-item.field-0.0 c.loop.items c.loop.counter c.loop.rest.now c.loop-test.true c.in_err-item.ensures c.loop.invariant)

pub given_items-loop-preserved : goal.given_items-loop-preserved
given_items-loop-preserved t c =
    rw c.in_ok-push.ensures.ok (goes_on given_tree (form_at (nested_at c.args.level.depth) form.given) c.args.count _ c.loop.items c.loop.counter c.loop.rest.now c.in_ok-item.after.now c.in_ok-item.item c.loop-test.true c.in_ok-item.ensures c.loop.invariant)

pub given_items-returns : goal.given_items-returns
given_items-returns t c = is_done given_tree (form_at (nested_at c.args.level.depth) form.given) c.args.count _ c.loop.items c.loop.counter c.loop.rest.now c.loop-test.false c.loop.invariant
