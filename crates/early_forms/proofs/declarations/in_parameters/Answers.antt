use Rattle.std.proofs.Common.{◌∙◌, sym, arith}
use Rattle.early_forms.specs.Early.{in_parameter}
use Rattle.early_forms.proofs.Somes.{found_at, none_at, none_left}
use Rattle.early_forms.proofs.declarations.in_parameters.Goals as goal

pub returns-then-in_type : goal.returns-then-in_type
returns-then-in_type c = found_at in_parameter c.args.list.now c.loop-item.item-index c.loop-item.invariant c.item-item.result (omega arith) c.item-item.is (sym c.in_type.ensures ∙ c.if-in_type.true)

pub loop-item-preserved : goal.loop-item-preserved
loop-item-preserved c = none_at in_parameter c.args.list.now c.loop-item.item-index c.loop-item.invariant c.item-item.result (omega arith) c.item-item.is (sym c.in_type.ensures ∙ c.if-in_type.false)

pub returns : goal.returns
returns c = none_left in_parameter c.args.list.now c.loop-item.item-index c.loop-item.invariant (omega arith)
