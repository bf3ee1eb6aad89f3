use Rattle.std.proofs.Common.{arith}
use Rattle.std.proofs.lemmas.Result.{err_from_is_err_and}
use Rattle.form_grammar.specs.Trees.{nested}
use Rattle.form_grammar.specs.Grammar as form
use Rattle.form_grammar.specs.Reading.{form_at, nested_at}
use Rattle.form_grammar.proofs.Loops.{begins, goes_on, fails, is_done}
use Rattle.form_grammar.proofs.Nested.{nested_none, nested_full, nested_more}
use Rattle.slang_core.specs.BodyTrees.{stat_tree}
use Rattle.form_bodies.proofs.stats.+stat.Goals as goal

pub stat_of-returns-then-bytes-eq0 : goal.stat_of-returns-then-bytes-eq0
stat_of-returns-then-bytes-eq0 t c = rw c.short.ensures (nested_none c.args.level.depth form.Stat c.args.bytes.now c.if-bytes-eq0.true)

pub stat_of-returns-then-level-eq0 : goal.stat_of-returns-then-level-eq0
stat_of-returns-then-level-eq0 t c = rw c.refused.ensures (nested_full c.args.level.depth form.Stat c.args.bytes.now c.if-level-eq0.true (omega arith))

pub stat_of-returns : goal.stat_of-returns
stat_of-returns t c = rw (nested_more c.args.level.depth form.Stat c.args.bytes.now (omega arith)) c.stat_body.ensures

pub stat_items-loop-init : goal.stat_items-loop-init
stat_items-loop-init t c = rw c.new-items.ensures (begins (λ s. nested (stat_tree s)) (form_at (nested_at c.args.level.depth) (form.part form.Stat)) c.args.count c.args.bytes.now)

pub stat_items-returns-in_err-item : goal.stat_items-returns-in_err-item
stat_items-returns-in_err-item t c =
    let p = err_from_is_err_and c.from_residual.result c.from_residual.ensures.1 in
    rw (p.1, p.2) (fails (λ s. nested (stat_tree s)) (form_at (nested_at c.args.level.depth) (form.part form.Stat)) c.args.count _ c.in_err-item.field-0.0 c.loop.items c.loop.counter c.loop.rest.now c.loop-test.true c.in_err-item.ensures c.loop.invariant)

pub stat_items-loop-preserved : goal.stat_items-loop-preserved
stat_items-loop-preserved t c =
    rw c.in_ok-push.ensures.ok (goes_on (λ s. nested (stat_tree s)) (form_at (nested_at c.args.level.depth) (form.part form.Stat)) c.args.count _ c.loop.items c.loop.counter c.loop.rest.now c.in_ok-item.after.now c.in_ok-item.item c.loop-test.true c.in_ok-item.ensures c.loop.invariant)

pub stat_items-returns : goal.stat_items-returns
stat_items-returns t c = is_done (λ s. nested (stat_tree s)) (form_at (nested_at c.args.level.depth) (form.part form.Stat)) c.args.count _ c.loop.items c.loop.counter c.loop.rest.now c.loop-test.false c.loop.invariant
