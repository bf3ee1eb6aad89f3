use Rattle.std.proofs.Common.{arith}
use Rattle.run_buffers.proofs.Decimals.{reaches_more, reaches_less}
use Rattle.run_buffers.proofs.numbers.+reaches.Goals as goal

pub returns-else-low-past : goal.returns-else-low-past
returns-else-low-past t c = (
  λ yes. reaches_more c.args.first c.args.past c.args.low c.args.high (omega arith) (c.reaches.ensures.0 yes),
  λ r. c.reaches.ensures.1 (reaches_less c.args.first c.args.past c.args.low c.args.high (omega arith) r),
)
