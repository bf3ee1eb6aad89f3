use Rattle.std.proofs.Common.{arith, slice_index}
use Rattle.call_layout.proofs.Moved.{begun-none, one-too-long, started-more}
use Rattle.call_layout.proofs.layout.started.Goals as goal

pub returns-in-None-clause-too_large : goal.returns-in-None-clause-too_large
returns-in-None-clause-too_large c = λ e es.
    one-too-long c.args.words.now es c.loop-function.function (omega (arith, c.loop-function.auto.function)) c.loop-function-test.true
    (omega (arith, c.in-None.ensures))

pub loop-function-preserved : goal.loop-function-preserved
loop-function-preserved c =
    let w = slice_index c.args.words.now 0 in
    rw (c.in_ok-push-in-Some.ensures.items)
    (started-more c.args.words.now c.loop-function.begins.items c.loop-function.function w c.loop-function.invariant (omega (arith, c.loop-function.auto.function))
    (omega arith) (omega (arith, c.in-Some.ensures)))

pub returns-clause-begun : goal.returns-clause-begun
returns-clause-begun c = λ es.
    begun-none c.args.words.now c.loop-function.begins.items es c.loop-function.function c.loop-function-test.false
    (c.loop-function.auto.function-end (omega (arith, c.requires))) c.loop-function.invariant
