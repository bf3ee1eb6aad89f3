use Rattle.std.proofs.Common.{arith}
use Rattle.flat_values.proofs.Growing.{copied_one}
use Rattle.flat_values.proofs.ranges.copy_words.Goals as goal

pub returns-then-count-eq1 : goal.returns-then-count-eq1
returns-then-count-eq1 c =
    copied_one c.args.words.now c.args.from c.args.to c.args.count (omega arith) (omega arith) c.if-count-eq1.true
