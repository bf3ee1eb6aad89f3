use Rattle.std.proofs.Common.{◌∙◌, sym, arith}
use Rattle.early_forms.specs.Early.{in_member}
use Rattle.early_forms.proofs.Somes.{found_at, none_at, none_left}
use Rattle.early_forms.proofs.declarations.in_members.Goals as goal

pub returns-then-in_member : goal.returns-then-in_member
returns-then-in_member c = found_at in_member c.args.list.now c.loop-item.item-index c.loop-item.invariant c.item-item.result (omega arith) c.item-item.is (sym c.in_member.ensures ∙ c.if-in_member.true)

pub loop-item-preserved : goal.loop-item-preserved
loop-item-preserved c = none_at in_member c.args.list.now c.loop-item.item-index c.loop-item.invariant c.item-item.result (omega arith) c.item-item.is (sym c.in_member.ensures ∙ c.if-in_member.false)

pub returns : goal.returns
returns c = none_left in_member c.args.list.now c.loop-item.item-index c.loop-item.invariant (omega arith)
