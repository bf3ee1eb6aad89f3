use Rattle.std.proofs.Common.{arith}
use Rattle.run_buffers.proofs.Separated.{stops_at, stops_short}
use Rattle.run_buffers.proofs.steps.number.Goals as goal

pub returns-in-Wrong-clause-stops : goal.returns-in-Wrong-clause-stops
returns-in-Wrong-clause-stops c =
    stops_at c.args.field.separator c.args.field.low c.args.field.high c.args.bytes.now c.loop-i.i c.loop-i.value _ (omega arith) c.loop-i.invariant.front c.loop-i.invariant.begun c.in-Wrong.ensures

pub returns-clause-stops : goal.returns-clause-stops
returns-clause-stops c =
    stops_short c.args.field.separator c.args.field.low c.args.field.high c.args.bytes.now c.loop-i.i c.loop-i.value (omega arith) c.loop-i.invariant.front c.loop-i.invariant.begun
