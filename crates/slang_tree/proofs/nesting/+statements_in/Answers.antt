use Rattle.std.proofs.Common.{◌∙◌, sym, arith}
use Rattle.slang_tree.specs.Nesting.{deep_stat}
use Rattle.slang_tree.proofs.Firsts.{found_at, none_at, none_left}
use Rattle.slang_tree.proofs.nesting.+statements_in.Goals as goal

pub in_stats-returns-in-Some : goal.in_stats-returns-in-Some
in_stats-returns-in-Some t c = found_at deep_stat c.args.list.now c.args.around c.loop-item.item-index c.loop-item.invariant c.item-item.result c.in-Some.place (omega arith) c.item-item.is c.in-Some.ensures

pub in_stats-loop-item-preserved : goal.in_stats-loop-item-preserved
in_stats-loop-item-preserved t c = none_at deep_stat c.args.list.now c.args.around c.loop-item.item-index c.loop-item.invariant c.item-item.result (omega arith) c.item-item.is (sym c.in_stat.ensures ∙ c.in_default.is)

pub in_stats-returns : goal.in_stats-returns
in_stats-returns t c = none_left deep_stat c.args.list.now c.args.around c.loop-item.item-index c.loop-item.invariant (omega arith)
