use Rattle.std.proofs.Common.{◌∙◌, sym, arith}
use Rattle.slang_tree.specs.Nesting.{deep_initializer}
use Rattle.slang_tree.proofs.Firsts.{found_at, none_at, none_left}
use Rattle.slang_tree.proofs.nesting.+lists_in.Goals as goal

pub in_initializers-returns-in-Some : goal.in_initializers-returns-in-Some
in_initializers-returns-in-Some t c = found_at deep_initializer c.args.list.now c.args.around c.loop-item.item-index c.loop-item.invariant c.item-item.result c.in-Some.place (omega arith) c.item-item.is c.in-Some.ensures

pub in_initializers-loop-item-preserved : goal.in_initializers-loop-item-preserved
in_initializers-loop-item-preserved t c = none_at deep_initializer c.args.list.now c.args.around c.loop-item.item-index c.loop-item.invariant c.item-item.result (omega arith) c.item-item.is (sym c.in_initializer.ensures ∙ c.in_default.is)

pub in_initializers-returns : goal.in_initializers-returns
in_initializers-returns t c = none_left deep_initializer c.args.list.now c.args.around c.loop-item.item-index c.loop-item.invariant (omega arith)
