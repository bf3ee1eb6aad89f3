use Rattle.std.proofs.Common.{◌∙◌, sym, arith}
use Rattle.slang_tree.specs.Nesting.{deep_argument}
use Rattle.slang_tree.proofs.Firsts.{found_at, none_at, none_left}
use Rattle.slang_tree.proofs.nesting.+types_in.Goals as goal

pub in_arguments-returns-in-Some : goal.in_arguments-returns-in-Some
in_arguments-returns-in-Some t c = found_at deep_argument c.args.list.now c.args.around c.loop-item.item-index c.loop-item.invariant c.item-item.result c.in-Some.place (omega arith) c.item-item.is c.in-Some.ensures

pub in_arguments-loop-item-preserved : goal.in_arguments-loop-item-preserved
in_arguments-loop-item-preserved t c = none_at deep_argument c.args.list.now c.args.around c.loop-item.item-index c.loop-item.invariant c.item-item.result (omega arith) c.item-item.is (sym c.in_argument.ensures ∙ c.in_default.is)

pub in_arguments-returns : goal.in_arguments-returns
in_arguments-returns t c = none_left deep_argument c.args.list.now c.args.around c.loop-item.item-index c.loop-item.invariant (omega arith)
