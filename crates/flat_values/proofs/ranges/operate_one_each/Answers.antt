use Rattle.std.proofs.Common.{arith}
use Rattle.flat_values.specs.Operators.{unary_of}
use Rattle.flat_values.proofs.Growing.{mapped_one}
use Rattle.flat_values.proofs.ranges.operate_one_each.Goals as goal

pub returns-then-count-eq1 : goal.returns-then-count-eq1
returns-then-count-eq1 c =
    mapped_one (unary_of c.args.op) c.args.words.now c.args.from c.args.to c.args.count c.operate_one.result (omega arith) (omega arith)
    c.if-count-eq1.true c.operate_one.ensures
