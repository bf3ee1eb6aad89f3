use Rattle.std.proofs.Common.{arith, rules, append_assoc}
use Rattle.form_grammar.specs.Trees.{nested}
use Rattle.form_grammar.proofs.Chains.{wrote, all_written, to_write}
use Rattle.slang_core.specs.BodyTrees.{stat_tree}
use Rattle.form_bodies.proofs.Blocks.{block_tree}
use Rattle.form_bodies.proofs.writing.+put_stat.Goals as goal

pub put_stat_items-loop-item-init : goal.put_stat_items-loop-item-init
put_stat_items-loop-item-init t c = to_write (λ s. nested (stat_tree s)) c.args.out.now.items c.args.items.now

pub put_stat_items-loop-item-preserved : goal.put_stat_items-loop-item-preserved
put_stat_items-loop-item-preserved t c = wrote (λ s. nested (stat_tree s)) c.loop-item.out.items c.put_stat.new.out.items c.args.items.now c.loop-item.item-index _ c.item-item.result (omega arith) c.item-item.is c.in_ok-put_stat.ensures c.loop-item.invariant

pub put_stat_items-returns : goal.put_stat_items-returns
put_stat_items-returns t c = all_written (λ s. nested (stat_tree s)) c.loop-item.out.items c.args.items.now c.loop-item.item-index _ c.loop-item-test.false c.loop-item.invariant

pub put_stat-returns-in_ok-put_stats-in-Block : goal.put_stat-returns-in_ok-put_stats-in-Block
put_stat-returns-in_ok-put_stats-in-Block t c = let e = block_tree c.in-Block.statements in search (rules, append_assoc)
