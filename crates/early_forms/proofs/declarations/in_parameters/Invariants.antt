use Rattle.std.proofs.Common.{◌≡◌, map, drop}
use Rattle.early_forms.specs.Early.{some_of, in_parameter}
use Rattle.early_forms.proofs.declarations.in_parameters.Given as goal

abbrev pub invariant-loop-item : goal.invariant-loop-item
invariant-loop-item l = some_of (map in_parameter l.list) ≡ some_of (map in_parameter (drop l.item-index l.list))
