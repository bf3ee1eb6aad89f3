use Rattle.std.proofs.Common.{arith}
use Rattle.form_grammar.proofs.Chains.{wrote, all_written, to_write}
use Rattle.slang_core.specs.BodyTrees.{body_tree}
use Rattle.form_bodies.proofs.bodies.put_body_items.Goals as goal

pub loop-item-init : goal.loop-item-init
loop-item-init c = to_write body_tree c.args.out.now.items c.args.items.now

pub loop-item-preserved : goal.loop-item-preserved
loop-item-preserved c = wrote body_tree c.loop-item.out.items c.put_body.new.out.items c.args.items.now c.loop-item.item-index _ c.item-item.result (omega arith) c.item-item.is c.in_ok-put_body.ensures c.loop-item.invariant

pub returns : goal.returns
returns c = all_written body_tree c.loop-item.out.items c.args.items.now c.loop-item.item-index _ c.loop-item-test.false c.loop-item.invariant
