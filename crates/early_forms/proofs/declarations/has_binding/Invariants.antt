use Rattle.std.proofs.Common.{◌≡◌, map, drop}
use Rattle.early_forms.specs.Early.{some_of, is_binding}
use Rattle.early_forms.proofs.declarations.has_binding.Given as goal

abbrev pub invariant-loop-item : goal.invariant-loop-item
invariant-loop-item l = some_of (map is_binding l.list) ≡ some_of (map is_binding (drop l.item-index l.list))
