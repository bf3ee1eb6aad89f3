use Rattle.std.proofs.Common.{arith}
use Rattle.form_grammar.proofs.Chains.{wrote, all_written, to_write}
use Rattle.form_decls.proofs.items.put_items.Goals as goal

pub loop-item-init : goal.loop-item-init
loop-item-init g c = to_write g.T.Stored.tree c.args.out.now.items c.args.items.now

pub loop-item-preserved : goal.loop-item-preserved
loop-item-preserved g c = wrote g.T.Stored.tree c.loop-item.out.items c.put.new.out.items c.args.items.now c.loop-item.item-index _ c.item-item.result (omega arith) c.item-item.is c.in_ok-put.ensures c.loop-item.invariant

pub returns : goal.returns
returns g c = all_written g.T.Stored.tree c.loop-item.out.items c.args.items.now c.loop-item.item-index _ c.loop-item-test.false c.loop-item.invariant
