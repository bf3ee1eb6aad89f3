use Rattle.std.proofs.Common.{◌∙◌, sym, arith}
use Rattle.early_forms.specs.Early.{in_stat}
use Rattle.early_forms.proofs.Somes.{found_at, none_at, none_left}
use Rattle.early_forms.proofs.statements.+statements_in.Goals as goal

pub in_stats-returns-then-in_stat : goal.in_stats-returns-then-in_stat
in_stats-returns-then-in_stat t c = found_at in_stat c.args.list.now c.loop-item.item-index c.loop-item.invariant c.item-item.result (omega arith) c.item-item.is (sym c.in_stat.ensures ∙ c.if-in_stat.true)

pub in_stats-loop-item-preserved : goal.in_stats-loop-item-preserved
in_stats-loop-item-preserved t c = none_at in_stat c.args.list.now c.loop-item.item-index c.loop-item.invariant c.item-item.result (omega arith) c.item-item.is (sym c.in_stat.ensures ∙ c.if-in_stat.false)

pub in_stats-returns : goal.in_stats-returns
in_stats-returns t c = none_left in_stat c.args.list.now c.loop-item.item-index c.loop-item.invariant (omega arith)
