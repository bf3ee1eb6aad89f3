use Rattle.std.proofs.Common.{arith, rules}
use Rattle.std.proofs.lemmas.Result.{err_from_is_err_and}
use Rattle.form_grammar.specs.Grammar as form
use Rattle.form_grammar.specs.Reading.{form_at, nested_at}
use Rattle.form_grammar.proofs.Loops.{begins, goes_on, fails, is_done}
use Rattle.form_grammar.proofs.Nested.{nested_none, nested_full, nested_more}
use Rattle.slang_core.specs.EvidenceTrees.{evidence_part}
use Rattle.form_grammar.specs.Numbers.{after}
use Rattle.form_types.proofs.Conformances.{conformance_tree}
use Rattle.form_types.proofs.evidence.+evidence.Goals as goal

pub evidence_of-returns-then-bytes-eq0 : goal.evidence_of-returns-then-bytes-eq0
evidence_of-returns-then-bytes-eq0 t c = rw c.short.ensures (nested_none c.args.level.depth form.Evidence c.args.bytes.now c.if-bytes-eq0.true)

pub evidence_of-returns-then-level-eq0 : goal.evidence_of-returns-then-level-eq0
evidence_of-returns-then-level-eq0 t c = rw c.refused.ensures (nested_full c.args.level.depth form.Evidence c.args.bytes.now c.if-level-eq0.true (omega arith))

pub evidence_of-returns : goal.evidence_of-returns
evidence_of-returns t c = rw (nested_more c.args.level.depth form.Evidence c.args.bytes.now (omega arith)) c.evidence_body.ensures

pub evidence_items-loop-init : goal.evidence_items-loop-init
evidence_items-loop-init t c = rw c.new-items.ensures (begins evidence_part (form_at (nested_at c.args.level.depth) (form.part form.Evidence)) c.args.count c.args.bytes.now)

pub evidence_items-returns-in_err-item : goal.evidence_items-returns-in_err-item
evidence_items-returns-in_err-item t c =
    let p = err_from_is_err_and c.from_residual.result c.from_residual.ensures.1 in
    rw (p.1, p.2) (fails evidence_part (form_at (nested_at c.args.level.depth) (form.part form.Evidence)) c.args.count _ c.in_err-item.field-0.0 c.loop.items c.loop.counter c.loop.rest.now c.loop-test.true c.in_err-item.ensures c.loop.invariant)

pub evidence_items-loop-preserved : goal.evidence_items-loop-preserved
evidence_items-loop-preserved t c =
    rw c.in_ok-push.ensures.ok (goes_on evidence_part (form_at (nested_at c.args.level.depth) (form.part form.Evidence)) c.args.count _ c.loop.items c.loop.counter c.loop.rest.now c.in_ok-item.after.now c.in_ok-item.item c.loop-test.true c.in_ok-item.ensures c.loop.invariant)

pub evidence_items-returns : goal.evidence_items-returns
evidence_items-returns t c = is_done evidence_part (form_at (nested_at c.args.level.depth) (form.part form.Evidence)) c.args.count _ c.loop.items c.loop.counter c.loop.rest.now c.loop-test.false c.loop.invariant

pub conformance_of-returns : goal.conformance_of-returns
unfolding form_at after
conformance_of-returns t c =
    let e = conformance_tree c.in_ok-subject.subject c.in_ok-interface.interface c.in_ok-args.args c.in_ok-bounds.bounds in
    search rules
