use Rattle.std.proofs.Common.{subst}
use Rattle.spirv_words.specs.declared.faults.ImageCode.TheVariants as codes
use Rattle.run_rooms.specs.Calls.{KeepsCalls}
use Rattle.run_rooms.proofs.Cycles.{keeps}
use Rattle.run_rooms.proofs.laws.calls_of_valid_images.Goals as goal

pub returns : goal.returns
returns c = λ code v.
    let w = c.where_functions_begin_and_end.ensures in
    let all = v.image.instructions in
    let is : KeepsCalls all = keeps v.image v.valid (c.what_is_run_fits.ensures.context v.image v.valid) (w.calls v.image v.valid) (w.begun v.image v.valid) (w.entry v.image v.valid)
    (λ x y e back. c.calls_lead_nowhere_back.ensures all x y (v.valid.keeps codes.Calls) e back) in
    subst KeepsCalls v.same is
