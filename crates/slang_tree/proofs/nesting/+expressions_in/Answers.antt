use Rattle.std.proofs.Common.{◌∙◌, sym, arith}
use Rattle.slang_tree.specs.Nesting.{deep_expr}
use Rattle.slang_tree.proofs.Firsts.{found_at, none_at, none_left}
use Rattle.slang_tree.proofs.nesting.+expressions_in.Goals as goal

pub in_exprs-returns-in-Some : goal.in_exprs-returns-in-Some
in_exprs-returns-in-Some t c = found_at deep_expr c.args.list.now c.args.around c.loop-item.item-index c.loop-item.invariant c.item-item.result c.in-Some.place (omega arith) c.item-item.is c.in-Some.ensures

pub in_exprs-loop-item-preserved : goal.in_exprs-loop-item-preserved
in_exprs-loop-item-preserved t c = none_at deep_expr c.args.list.now c.args.around c.loop-item.item-index c.loop-item.invariant c.item-item.result (omega arith) c.item-item.is (sym c.in_expr.ensures ∙ c.in_default.is)

pub in_exprs-returns : goal.in_exprs-returns
in_exprs-returns t c = none_left deep_expr c.args.list.now c.args.around c.loop-item.item-index c.loop-item.invariant (omega arith)
