use Rattle.std.proofs.Common.{◌≡◌, ℕ, Some, List, [], ◌∷◌, ◌++◌, subst, sym, ap, ◌∙◌}
use Rattle.std.specs.Option.{option_map}
use Rattle.std.proofs.lemmas.List.{append_assoc, append-nil}
use Rattle.std.proofs.lemmas.Result.{err_from_is_err_and}
use Rattle.run_buffers.specs.declared.buffer.Buffer.{Buffer}
use Rattle.run_buffers.specs.Texts.{line_of, text_of, Fits}
use Rattle.run_buffers.specs.Lines.{ahead_of, FitsIn, Breaks}
use Rattle.run_buffers.proofs.Stopped.{stopped_so}
use Rattle.run_buffers.proofs.Fitting.{start, fits_from_in}
use Rattle.run_buffers.proofs.Whole.{text_push, breaks_fits}
use Rattle.run_buffers.proofs.reading.text.Goals as goal

pub returns-in_err-buffer-clause-breaks : goal.returns-in_err-buffer-clause-breaks
returns-in_err-buffer-clause-breaks c =
    let p = err_from_is_err_and c.from_residual.result c.from_residual.ensures.1 in
    rw (p.1, p.2) (stopped_so c.in_err-buffer.field-0.0 (λ left. Breaks (FitsIn (option_map ahead_of c.loop-rest.room)) c.loop-rest.rest.now left) (λ left. Breaks Fits c.args.bytes.now left)
    (λ left s. breaks_fits c.args.bytes.now left (c.loop-rest.invariant.goes_on left s))
    c.in_err-buffer.ensures.breaks)

pub loop-rest-preserved : goal.loop-rest-preserved
loop-rest-preserved c =
    let old = c.loop-rest.buffers.items in
    let b = c.in_ok-buffer.buffer in
    let pushed : c.push.new.buffers.items ≡ c.loop-rest.buffers.items ++ c.in_ok-buffer.buffer ∷ [] = c.in_ok-push.ensures.pushed in
    record {
      so_far =
          c.loop-rest.invariant.so_far
          ∙ (ap (λ (us : List ℕ). text_of c.loop-rest.buffers.items ++ us) c.in_ok-buffer.ensures.read
          ∙ (sym (append_assoc (text_of c.loop-rest.buffers.items) (line_of c.in_ok-buffer.buffer) c.in_ok-buffer.bytes.now)
          ∙ ap (λ (us : List ℕ). us ++ c.in_ok-buffer.bytes.now) (sym (ap text_of pushed ∙ text_push c.loop-rest.buffers.items c.in_ok-buffer.buffer))));
      fits = λ bs can.
          subst (FitsIn (Some start)) (sym (append_assoc c.loop-rest.buffers.items (c.in_ok-buffer.buffer ∷ []) bs) ∙ ap (λ (xs : List Buffer). xs ++ bs) (sym pushed))
          (c.loop-rest.invariant.fits (c.in_ok-buffer.buffer ∷ bs) (c.in_ok-buffer.ensures.fits bs can));
      goes_on = λ left s. c.loop-rest.invariant.goes_on left (c.in_ok-buffer.ensures.goes_on left s);
    }

pub returns-clause-fits : goal.returns-clause-fits
returns-clause-fits c =
    fits_from_in c.loop-rest.buffers.items (subst (FitsIn (Some start)) (append-nil c.loop-rest.buffers.items) (c.loop-rest.invariant.fits [] tt))
