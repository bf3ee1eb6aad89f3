use Rattle.std.proofs.Common.{arith}
use Rattle.flat_values.proofs.Growing.{copied_before}
use Rattle.flat_values.proofs.ranges.copy_from_last.Goals as goal

pub loop-k-preserved : goal.loop-k-preserved
loop-k-preserved c =
    let within = c.loop-k.invariant.0 in (
      omega arith,
      copied_before c.args.words.now c.loop-k.words c.args.from c.args.to c.loop-k.k c.args.count c.requires.from_inside
          c.requires.to_inside c.requires.up (omega arith) within c.loop-k.invariant.1,
    )
