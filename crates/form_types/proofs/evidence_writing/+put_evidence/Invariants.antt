use Rattle.std.proofs.Common.{◌++◌, map}
use Rattle.form_grammar.specs.Trees.{spelling, chain}
use Rattle.form_grammar.proofs.Chains.{Writes}
use Rattle.slang_core.specs.EvidenceTrees.{evidence_part}
use Rattle.form_types.proofs.evidence_writing.+put_evidence.Given as goal

abbrev pub invariant-put_evidence_items-loop-item : goal.invariant-put_evidence_items-loop-item
invariant-put_evidence_items-loop-item l = Writes evidence_part l.out.items l.items l.item-index (l.fn.out.items ++ spelling (chain (map evidence_part l.items)))
