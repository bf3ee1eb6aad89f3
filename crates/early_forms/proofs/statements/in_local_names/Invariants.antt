use Rattle.std.proofs.Common.{◌≡◌, map, drop}
use Rattle.early_forms.specs.Early.{some_of, in_local_name}
use Rattle.early_forms.proofs.statements.in_local_names.Given as goal

abbrev pub invariant-loop-item : goal.invariant-loop-item
invariant-loop-item l = some_of (map in_local_name l.list) ≡ some_of (map in_local_name (drop l.item-index l.list))
