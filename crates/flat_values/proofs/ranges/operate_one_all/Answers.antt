use Rattle.std.proofs.Common.{arith}
use Rattle.flat_values.specs.Operators.{unary_of}
use Rattle.flat_values.proofs.Growing.{mapped_more}
use Rattle.flat_values.proofs.ranges.operate_one_all.Goals as goal

pub loop-k-preserved : goal.loop-k-preserved
loop-k-preserved c =
    mapped_more (unary_of c.args.op) c.args.words.now c.loop-k.words c.args.from c.args.to c.loop-k.k c.args.count c.operate_one.result
    (omega arith) c.requires.from_inside c.requires.to_inside c.requires.apart c.loop-k.invariant c.operate_one.ensures
