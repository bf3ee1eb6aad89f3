use Rattle.std.proofs.Common.{◌≡◌, ◌+◌, ◌-◌, ◌*◌, map}
use Rattle.form_grammar.specs.Grammar as form
use Rattle.form_grammar.specs.Reading.{form_at, nested_at, items_at}
use Rattle.form_grammar.proofs.Loops.{behind_these}
use Rattle.slang_core.specs.EvidenceTrees.{evidence_part}
use Rattle.form_types.proofs.evidence.+evidence.Given as goal

abbrev pub decreases-evidence_of : goal.decreases-evidence_of
decreases-evidence_of l = 8 * l.level.depth + 0

abbrev pub decreases-evidence_at : goal.decreases-evidence_at
decreases-evidence_at l = 8 * l.level.depth + 1

abbrev pub decreases-evidence_items : goal.decreases-evidence_items
decreases-evidence_items l = 8 * l.level.depth + 2

abbrev pub decreases-evidences_of : goal.decreases-evidences_of
decreases-evidences_of l = 8 * l.level.depth + 3

abbrev pub decreases-bound_of : goal.decreases-bound_of
decreases-bound_of l = 8 * l.level.depth + 4

abbrev pub decreases-conformance_of : goal.decreases-conformance_of
decreases-conformance_of l = 8 * l.level.depth + 4

abbrev pub decreases-evidence_body : goal.decreases-evidence_body
decreases-evidence_body l = 8 * l.level.depth + 5

abbrev pub invariant-evidence_items-loop : goal.invariant-evidence_items-loop
invariant-evidence_items-loop l =
    let item = form_at (nested_at l.level.depth) (form.part form.Evidence) in
    behind_these (map evidence_part l.items) (items_at item (l.count - l.counter) l.rest) ≡ items_at item l.count l.bytes
