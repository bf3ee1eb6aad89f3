use Rattle.std.proofs.Common.{arith}
use Rattle.form_grammar.specs.Grammar as form
use Rattle.std.proofs.lemmas.Result.{err_from_is_err_and}
use Rattle.form_grammar.specs.Reading.{form_at, nested_at}
use Rattle.slang_core.specs.TypeTrees.{arg_tree}
use Rattle.form_grammar.proofs.Loops.{begins, goes_on, fails, is_done}
use Rattle.form_grammar.proofs.Nested.{nested_none, nested_full, nested_more}
use Rattle.form_types.proofs.types.+term.Goals as goal

pub term_of-returns-then-bytes-eq0 : goal.term_of-returns-then-bytes-eq0
term_of-returns-then-bytes-eq0 t c = rw c.short.ensures (nested_none c.args.level.depth form.Term c.args.bytes.now c.if-bytes-eq0.true)

pub term_of-returns-then-level-eq0 : goal.term_of-returns-then-level-eq0
term_of-returns-then-level-eq0 t c = rw c.refused.ensures (nested_full c.args.level.depth form.Term c.args.bytes.now c.if-level-eq0.true (omega arith))

pub term_of-returns : goal.term_of-returns
term_of-returns t c = rw (nested_more c.args.level.depth form.Term c.args.bytes.now (omega arith)) c.term_body.ensures

pub arg_items-loop-init : goal.arg_items-loop-init
arg_items-loop-init t c = rw c.new-items.ensures (begins arg_tree (form_at (nested_at c.args.level.depth) form.arg) c.args.count c.args.bytes.now)

pub arg_items-returns-in_err-item : goal.arg_items-returns-in_err-item
arg_items-returns-in_err-item t c =
    let p = err_from_is_err_and c.from_residual.result c.from_residual.ensures.1 in
    rw (p.1, p.2) (fails arg_tree (form_at (nested_at c.args.level.depth) form.arg) c.args.count _ c.in_err-item.field-0.0 c.loop.items c.loop.counter c.loop.rest.now c.loop-test.true c.in_err-item.ensures c.loop.invariant)

pub arg_items-loop-preserved : goal.arg_items-loop-preserved
arg_items-loop-preserved t c =
    rw c.in_ok-push.ensures.ok (goes_on arg_tree (form_at (nested_at c.args.level.depth) form.arg) c.args.count _ c.loop.items c.loop.counter c.loop.rest.now c.in_ok-item.after.now c.in_ok-item.item c.loop-test.true c.in_ok-item.ensures c.loop.invariant)

pub arg_items-returns : goal.arg_items-returns
arg_items-returns t c = is_done arg_tree (form_at (nested_at c.args.level.depth) form.arg) c.args.count _ c.loop.items c.loop.counter c.loop.rest.now c.loop-test.false c.loop.invariant
