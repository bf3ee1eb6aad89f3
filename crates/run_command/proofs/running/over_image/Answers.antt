use Rattle.std.proofs.Common.{◌≡◌, ◌∙◌, sym, true, false, refl}
use Rattle.run_command.specs.Answers.{no_entry, dispatched}
use Rattle.run_command.proofs.Results.{if_ok_to}
use Rattle.run_command.proofs.Stops.{text_stops}
use Rattle.run_command.proofs.running.over_image.Goals as goal

pub returns-then-not-is_entry : goal.returns-then-not-is_entry
returns-then-not-is_entry c = λ text h. no_entry (λ e. absurd (let x : false ≡ true = sym c.if-not-is_entry.true ∙ c.is_entry.ensures.1 e in cc))

pub returns-in-Ok : goal.returns-in-Ok
returns-in-Ok c = λ text h. if_ok_to _ _ c.dispatched.result c.dispatched.ensures (λ a of. dispatched (c.is_entry.ensures.0 c.if-not-is_entry.false) (c.in-Ok.ensures.text text h) of)

pub returns-in-Err : goal.returns-in-Err
returns-in-Err c = λ text h. if_ok_to _ _ c.stopped.result c.stopped.ensures (λ a stop. text_stops _ _ text c.in-Err.fault _ (c.is_entry.ensures.0 c.if-not-is_entry.false) (c.in-Err.ensures.wrong text h) stop)
