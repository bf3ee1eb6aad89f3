use Rattle.std.proofs.Common.{◌∙◌, sym, arith}
use Rattle.slang_tree.specs.Nesting.{deep_item}
use Rattle.slang_tree.proofs.Firsts.{found_at, none_at, none_left}
use Rattle.slang_tree.proofs.nesting.in_items.Goals as goal

pub returns-in-Some : goal.returns-in-Some
returns-in-Some c = found_at deep_item c.args.list.now c.args.around c.loop-item.item-index c.loop-item.invariant c.item-item.result c.in-Some.place (omega arith) c.item-item.is c.in-Some.ensures

pub loop-item-preserved : goal.loop-item-preserved
loop-item-preserved c = none_at deep_item c.args.list.now c.args.around c.loop-item.item-index c.loop-item.invariant c.item-item.result (omega arith) c.item-item.is (sym c.in_item.ensures ∙ c.in_default.is)

pub returns : goal.returns
returns c = none_left deep_item c.args.list.now c.args.around c.loop-item.item-index c.loop-item.invariant (omega arith)
