use Rattle.std.proofs.Common.{◌∙◌, sym, arith}
use Rattle.early_forms.specs.Early.{in_local_name}
use Rattle.early_forms.proofs.Somes.{found_at, none_at, none_left}
use Rattle.early_forms.proofs.statements.in_local_names.Goals as goal

pub returns-then-in_local_name : goal.returns-then-in_local_name
returns-then-in_local_name c = found_at in_local_name c.args.list.now c.loop-item.item-index c.loop-item.invariant c.item-item.result (omega arith) c.item-item.is (sym c.in_local_name.ensures ∙ c.if-in_local_name.true)

pub loop-item-preserved : goal.loop-item-preserved
loop-item-preserved c = none_at in_local_name c.args.list.now c.loop-item.item-index c.loop-item.invariant c.item-item.result (omega arith) c.item-item.is (sym c.in_local_name.ensures ∙ c.if-in_local_name.false)

pub returns : goal.returns
returns c = none_left in_local_name c.args.list.now c.loop-item.item-index c.loop-item.invariant (omega arith)
