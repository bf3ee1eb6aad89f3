use Rattle.std.proofs.Common.{◌∙◌, sym, arith}
use Rattle.early_forms.specs.Early.{is_binding}
use Rattle.early_forms.proofs.Somes.{found_at, none_at, none_left}
use Rattle.early_forms.proofs.declarations.has_binding.Goals as goal

pub returns-then-is_binding : goal.returns-then-is_binding
returns-then-is_binding c = found_at is_binding c.args.list.now c.loop-item.item-index c.loop-item.invariant c.item-item.result (omega arith) c.item-item.is (sym c.is_binding.ensures ∙ c.if-is_binding.true)

pub loop-item-preserved : goal.loop-item-preserved
loop-item-preserved c = none_at is_binding c.args.list.now c.loop-item.item-index c.loop-item.invariant c.item-item.result (omega arith) c.item-item.is (sym c.is_binding.ensures ∙ c.if-is_binding.false)

pub returns : goal.returns
returns c = none_left is_binding c.args.list.now c.loop-item.item-index c.loop-item.invariant (omega arith)
