use Rattle.run_buffers.proofs.Words.{stops_in_word, stops_behind_word}
use Rattle.run_buffers.proofs.line_reading.word.Goals as goal

pub returns-in-Ok-clause-goes_on : goal.returns-in-Ok-clause-goes_on
returns-in-Ok-clause-goes_on c = λ left s.
    let read = rw c.separator_before.ensures at c.in-Ok.ensures.read in
    stops_behind_word c.args.more c.in-Ok.read.0 c.args.bytes.now c.in-Ok.read.1.now left c.in-Ok.ensures.within read s

pub returns-in-Err-clause-stops : goal.returns-in-Err-clause-stops
returns-in-Err-clause-stops c =
    let s = rw c.separator_before.ensures at c.in-Err.ensures.stops in
    stops_in_word c.args.more c.args.bytes.now c.in-Err.left s
