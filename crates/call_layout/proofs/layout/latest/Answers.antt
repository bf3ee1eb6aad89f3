use Rattle.std.proofs.Common.{arith}
use Rattle.call_graph.proofs.Visits.{any-has}
use Rattle.call_layout.proofs.Moved.{latest-more}
use Rattle.call_layout.proofs.layout.latest.Goals as goal

pub bounds-begins-at : goal.bounds-begins-at
bounds-begins-at c =
    let k = c.requires.known _ (any-has c.args.callers.now c.loop-caller.caller-index c.loop-caller-test.true) in
    omega (arith, k, c.requires.as_many)

pub bounds-words-at : goal.bounds-words-at
bounds-words-at c = c.requires.known _ (any-has c.args.callers.now c.loop-caller.caller-index c.loop-caller-test.true)

pub loop-caller-preserved : goal.loop-caller-preserved
loop-caller-preserved c =
    rw (c.max-latest.ensures)
    (latest-more c.args.words.now c.args.begins.now c.args.callers.now c.args.place c.loop-caller.caller-index c.loop-caller.latest c.loop-caller-test.true c.loop-caller.invariant)
