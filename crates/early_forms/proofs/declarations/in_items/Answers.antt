use Rattle.std.proofs.Common.{◌∙◌, sym, arith}
use Rattle.early_forms.specs.Early.{in_item}
use Rattle.early_forms.proofs.Somes.{found_at, none_at, none_left}
use Rattle.early_forms.proofs.declarations.in_items.Goals as goal

pub returns-then-in_item : goal.returns-then-in_item
returns-then-in_item c = found_at in_item c.args.list.now c.loop-item.item-index c.loop-item.invariant c.item-item.result (omega arith) c.item-item.is (sym c.in_item.ensures ∙ c.if-in_item.true)

pub loop-item-preserved : goal.loop-item-preserved
loop-item-preserved c = none_at in_item c.args.list.now c.loop-item.item-index c.loop-item.invariant c.item-item.result (omega arith) c.item-item.is (sym c.in_item.ensures ∙ c.if-in_item.false)

pub returns : goal.returns
returns c = none_left in_item c.args.list.now c.loop-item.item-index c.loop-item.invariant (omega arith)
