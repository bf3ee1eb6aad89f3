use Rattle.std.proofs.Common.{◌+◌, get_or, set, ap, ◌∙◌, arith}
use Rattle.flat_values.proofs.Growing.{copied_more}
use Rattle.flat_values.proofs.ranges.copy_from_first.Goals as goal

pub loop-k-preserved : goal.loop-k-preserved
loop-k-preserved c =
    let ws = c.args.words.now in
    ap (λ w. set w (c.args.to + c.loop-k.k) (get_or w (c.args.from + c.loop-k.k) 0)) c.loop-k.invariant
    ∙ copied_more ws c.args.from c.args.to c.loop-k.k (omega arith) (omega arith) c.requires.down
