use Rattle.std.proofs.Common.{◌∙◌}
use Rattle.run_command.specs.Answers.{no_image, no_buffers, over_files}
use Rattle.run_command.proofs.Results.{if_ok_to}
use Rattle.run_command.proofs.Stops.{comes_as}
use Rattle.run_command.proofs.command.run.Goals as goal

pub returns-in_default-clause-comes : goal.returns-in_default-clause-comes
returns-in_default-clause-comes g c = λ m told.
    let none = rw c.in_default.is at (c.in_ok-image.ensures.read m told) in
    if_ok_to _ _ c.absent.result c.absent.ensures.answer (λ a e. comes_as m _ _ _ e (no_image none))

pub returns-in_default-2-clause-comes : goal.returns-in_default-2-clause-comes
returns-in_default-2-clause-comes g c = λ m told.
    let some = rw c.in-Some.is at (c.in_ok-image.ensures.read m told) in
    let none = rw c.in_default-2.is at (c.in_ok-buffers.ensures.read m (c.read_held.ensures.stays ∙ told)) in
    if_ok_to _ _ c.absent-in_default-2.result c.absent-in_default-2.ensures.answer (λ a e. comes_as m _ _ _ e (no_buffers some.1 none))

pub returns-in-Ok-clause-comes : goal.returns-in-Ok-clause-comes
returns-in-Ok-clause-comes g c = λ m told.
    let image = rw c.in-Some.is at (c.in_ok-image.ensures.read m told) in
    let buffers = rw c.in-Some-2.is at (c.in_ok-buffers.ensures.read m (c.read_held.ensures.stays ∙ told)) in
    over_files image.1 buffers.1 (c.in-Ok.ensures image.0 buffers.0 image.2 buffers.2)
