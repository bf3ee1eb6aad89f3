use Rattle.std.proofs.lemmas.Result.{err_from_is_err_and}
use Rattle.run_buffers.specs.Texts.{line, line_of}
use Rattle.run_buffers.specs.Parts.{Stops}
use Rattle.run_buffers.specs.Lines.{ahead_of, AreWords, MayFollow}
use Rattle.run_buffers.proofs.Stopped.{stopped_so}
use Rattle.run_buffers.proofs.WholeLines.{stops_in_header, stops_in_words}
use Rattle.run_buffers.proofs.line_reading.line.Goals as goal

pub returns-in-Err-clause-stops : goal.returns-in-Err-clause-stops
returns-in-Err-clause-stops c =
    stops_in_header (ahead_of c.args.room) c.args.bytes.now c.in-Err.left c.args.room.counts c.in-Err.ensures.stops

pub returns-in_err-words-clause-stops : goal.returns-in_err-words-clause-stops
returns-in_err-words-clause-stops c =
    let p = err_from_is_err_and c.from_residual.result c.from_residual.ensures.1 in
    rw (p.1, p.2) (stopped_so c.in_err-words.field-0.0 (λ left. Stops line (AreWords c.in-Ok.read.0.count) c.in-Ok.read.1.now left) (λ left. Stops line_of (MayFollow (ahead_of c.args.room)) c.args.bytes.now left)
    (λ left s. stops_in_words (ahead_of c.args.room) c.in-Ok.read.0 c.args.bytes.now c.in-Ok.read.1.now left c.args.room.counts c.in-Ok.ensures.may c.in-Ok.ensures.read s)
    c.in_err-words.ensures.stops)
