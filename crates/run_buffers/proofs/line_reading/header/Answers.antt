use Rattle.std.proofs.Common.{rules}
use Rattle.run_buffers.specs.Lines.{ahead_of}
use Rattle.run_buffers.proofs.Headers.{stops_in_set, stops_in_binding, stops_in_count}
use Rattle.run_buffers.proofs.line_reading.header.Goals as goal

pub returns-in_err-set-clause-stops : goal.returns-in_err-set-clause-stops
returns-in_err-set-clause-stops c =
    let s = stops_in_set (ahead_of c.args.room) c.args.bytes.now _ c.args.room.bindings c.in_err-set.ensures.stops in
    search rules

pub returns-in_err-binding-clause-stops : goal.returns-in_err-binding-clause-stops
returns-in_err-binding-clause-stops c =
    let s = stops_in_binding (ahead_of c.args.room) c.in_ok-set.set _ c.in_ok-set.ensures.within c.lowest_binding.ensures c.args.bytes.now _ _ c.in_ok-set.ensures.read c.in_err-binding.ensures.stops in
    search rules

pub returns-in_err-count-clause-stops : goal.returns-in_err-count-clause-stops
returns-in_err-count-clause-stops c =
    let s = stops_in_count (ahead_of c.args.room) c.in_ok-set.set c.in_ok-binding.binding _ c.in_ok-set.ensures.within c.lowest_binding.ensures c.in_ok-binding.ensures.within c.args.bytes.now _ _ _ c.in_ok-set.ensures.read c.in_ok-binding.ensures.read c.in_err-count.ensures.stops in
    search rules
