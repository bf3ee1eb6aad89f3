use Rattle.std.proofs.Common.{◌∙◌, sym, arith}
use Rattle.early_forms.specs.Early.{in_initializer}
use Rattle.early_forms.proofs.Somes.{found_at, none_at, none_left}
use Rattle.early_forms.proofs.statements.+lists_in.Goals as goal

pub in_initializers-returns-then-in_initializer : goal.in_initializers-returns-then-in_initializer
in_initializers-returns-then-in_initializer t c = found_at in_initializer c.args.list.now c.loop-item.item-index c.loop-item.invariant c.item-item.result (omega arith) c.item-item.is (sym c.in_initializer.ensures ∙ c.if-in_initializer.true)

pub in_initializers-loop-item-preserved : goal.in_initializers-loop-item-preserved
in_initializers-loop-item-preserved t c = none_at in_initializer c.args.list.now c.loop-item.item-index c.loop-item.invariant c.item-item.result (omega arith) c.item-item.is (sym c.in_initializer.ensures ∙ c.if-in_initializer.false)

pub in_initializers-returns : goal.in_initializers-returns
in_initializers-returns t c = none_left in_initializer c.args.list.now c.loop-item.item-index c.loop-item.invariant (omega arith)
