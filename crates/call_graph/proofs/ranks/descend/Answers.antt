use Rattle.std.proofs.Common.{arith}
use Rattle.call_graph.specs.Edges.{rank}
use Rattle.call_graph.proofs.Descents.{descends-more}
use Rattle.call_graph.proofs.ranks.descend.Goals as goal

pub loop-caller-preserved : goal.loop-caller-preserved
loop-caller-preserved c =
    descends-more c.args.edges.now c.loop-caller.caller-index (rank c.args.ranks.now) c.loop-caller-test.true c.loop-caller.invariant
    (omega (arith, c.if-rank_of.false, c.rank_of.ensures, c.rank_of-in-loop-caller.ensures))
