use Rattle.std.proofs.Common.{◌≡◌, map, drop}
use Rattle.early_forms.specs.Early.{some_of, in_initializer}
use Rattle.early_forms.proofs.statements.+lists_in.Given as goal

abbrev pub invariant-in_initializers-loop-item : goal.invariant-in_initializers-loop-item
invariant-in_initializers-loop-item l = some_of (map in_initializer l.list) ≡ some_of (map in_initializer (drop l.item-index l.list))
