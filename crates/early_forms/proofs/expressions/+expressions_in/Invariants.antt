use Rattle.std.proofs.Common.{◌≡◌, map, drop}
use Rattle.early_forms.specs.Early.{some_of, in_expr}
use Rattle.early_forms.proofs.expressions.+expressions_in.Given as goal

abbrev pub invariant-in_exprs-loop-item : goal.invariant-in_exprs-loop-item
invariant-in_exprs-loop-item l = some_of (map in_expr l.list) ≡ some_of (map in_expr (drop l.item-index l.list))
