use Rattle.std.proofs.Common.{◌≡◌, map, drop}
use Rattle.early_forms.specs.Early.{some_of, in_stat}
use Rattle.early_forms.proofs.statements.+statements_in.Given as goal

abbrev pub invariant-in_stats-loop-item : goal.invariant-in_stats-loop-item
invariant-in_stats-loop-item l = some_of (map in_stat l.list) ≡ some_of (map in_stat (drop l.item-index l.list))
