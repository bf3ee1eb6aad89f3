use Rattle.std.proofs.Common.{◌∙◌, sym, arith}
use Rattle.early_forms.specs.Early.{in_expr}
use Rattle.early_forms.proofs.Somes.{found_at, none_at, none_left}
use Rattle.early_forms.proofs.expressions.+expressions_in.Goals as goal

pub in_exprs-returns-then-in_expr : goal.in_exprs-returns-then-in_expr
in_exprs-returns-then-in_expr t c = found_at in_expr c.args.list.now c.loop-item.item-index c.loop-item.invariant c.item-item.result (omega arith) c.item-item.is (sym c.in_expr.ensures ∙ c.if-in_expr.true)

pub in_exprs-loop-item-preserved : goal.in_exprs-loop-item-preserved
in_exprs-loop-item-preserved t c = none_at in_expr c.args.list.now c.loop-item.item-index c.loop-item.invariant c.item-item.result (omega arith) c.item-item.is (sym c.in_expr.ensures ∙ c.if-in_expr.false)

pub in_exprs-returns : goal.in_exprs-returns
in_exprs-returns t c = none_left in_expr c.args.list.now c.loop-item.item-index c.loop-item.invariant (omega arith)
