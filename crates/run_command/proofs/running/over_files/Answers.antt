use Rattle.std.proofs.Common.{◌≡◌, ◌∙◌, ℕ, List, refl, subst}
use Rattle.spirv_words.specs.Refusals.{OfRefusal}
use Rattle.run_command.specs.Files.{HoldsImage, WrongImage, too_long}
use Rattle.run_command.specs.Answers.{wrong_image, over_image}
use Rattle.run_command.proofs.Results.{if_ok_to}
use Rattle.run_command.proofs.Stops.{image_stops}
use Rattle.run_command.proofs.running.over_files.Goals as goal

pub returns-in_default : goal.returns-in_default
returns-in_default c = λ code text h k. wrong_image (too_long (rw c.in_default.is at h) refl refl)

pub returns-in-Ok : goal.returns-in-Ok
returns-in-Ok c = λ code text h k.
    let e = c.as_slice.ensures.value ∙ rw c.in-Bytes.is at h in
    let held = subst (λ (b : List ℕ). HoldsImage b c.in-Ok.image) e c.in-Ok.ensures.valid in
    if_ok_to _ _ c.over_image.result (c.over_image.ensures text k) (λ a over. over_image held over)

pub returns-in-Err : goal.returns-in-Err
returns-in-Err c = λ code text h k.
    let e = c.as_slice.ensures.value ∙ rw c.in-Bytes.is at h in
    let wrong = subst (λ (b : List ℕ). OfRefusal c.in-Err.fault (WrongImage b)) e c.in-Err.ensures.wrong in
    if_ok_to _ _ c.image_stopped.result c.image_stopped.ensures (λ a stop. image_stops _ code text c.in-Err.fault _ wrong stop)
