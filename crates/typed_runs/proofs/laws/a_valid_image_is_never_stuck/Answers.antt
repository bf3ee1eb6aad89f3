use Rattle.std.proofs.Common.{[]}
use Rattle.spirv_words.specs.Runs.{setting, start}
use Rattle.typed_runs.proofs.Known.{known}
use Rattle.typed_runs.proofs.Begins.{start_is_typed}
use Rattle.typed_runs.proofs.Unstuck.{unstuck}
use Rattle.typed_runs.proofs.laws.a_valid_image_is_never_stuck.Goals as goal

pub returns : goal.returns
returns c = λ image v ids lengths answers n e.
    unstuck image.instructions (known image v) ids lengths n (start (setting image.instructions ids lengths)) answers []
    (start_is_typed image.instructions (known image v) ids lengths) e
