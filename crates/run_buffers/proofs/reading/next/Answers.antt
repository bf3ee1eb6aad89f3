use Rattle.std.proofs.Common.{Option, Some, subst}
use Rattle.std.proofs.lemmas.Result.{err_from_is_err_and}
use Rattle.run_buffers.specs.Texts.{line_of}
use Rattle.run_buffers.specs.Parts.{Stops}
use Rattle.run_buffers.specs.Lines.{Ahead, ahead_of, FitsIn, Breaks, MayFollow}
use Rattle.run_buffers.proofs.Stopped.{stopped_so}
use Rattle.run_buffers.proofs.Breaking.{breaks_full, breaks_in_line, breaks_behind}
use Rattle.run_buffers.proofs.reading.next.Goals as goal

pub returns-in_default-clause-breaks : goal.returns-in_default-clause-breaks
returns-in_default-clause-breaks c = rw c.in_default.is (breaks_full c.args.bytes.now c.requires)

pub returns-in_err-buffer-clause-breaks : goal.returns-in_err-buffer-clause-breaks
returns-in_err-buffer-clause-breaks c =
    let p = err_from_is_err_and c.from_residual.result c.from_residual.ensures.1 in
    let room = ahead_of c.in-Some.room in
    rw (p.1, p.2, c.in-Some.is) (stopped_so c.in_err-buffer.field-0.0 (λ left. Stops line_of (MayFollow room) c.args.bytes.now left) (λ left. Breaks (FitsIn (Some room)) c.args.bytes.now left)
    (λ left s. breaks_in_line room c.args.bytes.now left c.in-Some.room.counts c.requires s)
    c.in_err-buffer.ensures.stops)

pub returns-clause-goes_on : goal.returns-clause-goes_on
returns-clause-goes_on c = λ left s.
    let room = ahead_of c.in-Some.room in
    rw c.in-Some.is (breaks_behind room c.in-Some.room.counts c.in_ok-buffer.buffer c.in_ok-buffer.ensures.may c.args.bytes.now c.in_ok-buffer.rest.now left c.in_ok-buffer.ensures.read
    (subst (λ (o : Option Ahead). Breaks (FitsIn o) c.in_ok-buffer.rest.now left) c.room_behind-behind.ensures s))
