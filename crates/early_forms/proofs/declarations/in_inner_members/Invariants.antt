use Rattle.std.proofs.Common.{◌≡◌, map, drop}
use Rattle.early_forms.specs.Early.{some_of, in_inner_member}
use Rattle.early_forms.proofs.declarations.in_inner_members.Given as goal

abbrev pub invariant-loop-item : goal.invariant-loop-item
invariant-loop-item l = some_of (map in_inner_member l.list) ≡ some_of (map in_inner_member (drop l.item-index l.list))
