use Rattle.std.proofs.Common.{◌≡◌, ◌-◌, map}
use Rattle.form_grammar.specs.Trees.{byte}
use Rattle.form_grammar.specs.Grammar as form
use Rattle.form_grammar.specs.Reading.{form_at, nested_at, items_at}
use Rattle.form_grammar.proofs.Loops.{behind_these}
use Rattle.form_exprs.proofs.marks.byte_items.Given as goal

abbrev pub invariant-loop : goal.invariant-loop
invariant-loop l =
    let item = form_at (nested_at l.level.depth) (form.range 0 255) in
    behind_these (map (λ n. byte n) l.items) (items_at item (l.count - l.counter) l.rest) ≡ items_at item l.count l.bytes
