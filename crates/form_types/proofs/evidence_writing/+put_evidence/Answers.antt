use Rattle.std.proofs.Common.{arith, rules, append_assoc}
use Rattle.form_grammar.proofs.Chains.{wrote, all_written, to_write}
use Rattle.slang_core.specs.EvidenceTrees.{evidence_tree, evidence_part}
use Rattle.slang_core.specs.declared.evidence.Evidence.{the_lemmas}
use Rattle.form_types.proofs.Conformances.{conformance_tree}
use Rattle.form_types.proofs.evidence_writing.+put_evidence.Goals as goal

pub put_evidence_items-loop-item-init : goal.put_evidence_items-loop-item-init
put_evidence_items-loop-item-init t c = to_write evidence_part c.args.out.now.items c.args.items.now

pub put_evidence_items-loop-item-preserved : goal.put_evidence_items-loop-item-preserved
put_evidence_items-loop-item-preserved t c = wrote evidence_part c.loop-item.out.items c.put_evidence.new.out.items c.args.items.now c.loop-item.item-index _ c.item-item.result (omega arith) c.item-item.is c.in_ok-put_evidence.ensures c.loop-item.invariant

pub put_evidence_items-returns : goal.put_evidence_items-returns
put_evidence_items-returns t c = all_written evidence_part c.loop-item.out.items c.args.items.now c.loop-item.item-index _ c.loop-item-test.false c.loop-item.invariant

pub put_evidence-returns-in_ok-put_name-in-Bound : goal.put_evidence-returns-in_ok-put_name-in-Bound
put_evidence-returns-in_ok-put_name-in-Bound t c = search (rules, the_lemmas, append_assoc)

pub put_evidence-returns-in_ok-put_evidences-in-Conformance : goal.put_evidence-returns-in_ok-put_evidences-in-Conformance
put_evidence-returns-in_ok-put_evidences-in-Conformance t c =
    let e = conformance_tree c.in-Conformance.subject c.in-Conformance.interface c.in-Conformance.args c.in-Conformance.bounds in
    search (rules, append_assoc)
