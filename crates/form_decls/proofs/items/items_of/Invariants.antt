use Rattle.std.proofs.Common.{◌≡◌, ◌-◌, map}
use Rattle.form_grammar.specs.Reading.{form_at, nested_at, items_at}
use Rattle.form_grammar.proofs.Loops.{behind_these}
use Rattle.form_decls.proofs.items.items_of.Given as goal

abbrev pub invariant-loop : goal.invariant-loop
invariant-loop g l =
    let item = form_at (nested_at l.level.depth) g.T.Stored.form in
    behind_these (map g.T.Stored.tree l.items) (items_at item (l.count - l.counter) l.rest) ≡ items_at item l.count l.bytes
