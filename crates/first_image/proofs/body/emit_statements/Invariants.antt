use Rattle.std.proofs.Common.{◌≡◌, ◌+◌, ◌*◌, ◌≤◌, take}
use Rattle.first_image.specs.Templates.{statements_code}
use Rattle.first_image.specs.Emitted.{tables_at, emitted_piece}
use Rattle.first_image.proofs.body.emit_statements.Given as goal

-- the code of the statements so far
abbrev pub invariant-loop-statement : goal.invariant-loop-statement
invariant-loop-statement l = record {
  out : l.out ≡ emitted_piece l.fn.out (statements_code (tables_at l.ids.numbers.items) (take l.statement-index l.statements) l.fn.out.next 0);
  few : l.out.next ≤ l.fn.out.next + 191 * l.statement-index;
}
