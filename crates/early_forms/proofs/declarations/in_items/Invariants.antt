use Rattle.std.proofs.Common.{◌≡◌, map, drop}
use Rattle.early_forms.specs.Early.{some_of, in_item}
use Rattle.early_forms.proofs.declarations.in_items.Given as goal

abbrev pub invariant-loop-item : goal.invariant-loop-item
invariant-loop-item l = some_of (map in_item l.list) ≡ some_of (map in_item (drop l.item-index l.list))
