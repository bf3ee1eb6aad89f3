use Rattle.std.proofs.Common.{◌≡◌, ◌∙◌, ℕ, ◌≤◌, List, length, subst}
use Rattle.run_buffers.specs.Refusals.{IfTextRefused}
use Rattle.run_command.specs.Files.{WrongBuffers, file_limit}
use Rattle.run_command.proofs.Stops.{refused_wrong}
use Rattle.run_command.proofs.running.buffers_of.Goals as goal

pub returns-in-Bytes-clause-wrong : goal.returns-in-Bytes-clause-wrong
returns-in-Bytes-clause-wrong c = λ bytes h.
    let e = c.as_slice.ensures.value ∙ rw c.in-Bytes.is at h in
    let short = rw c.in-Bytes.is at c.requires in
    let read : length c.as_slice.result.now ≤ file_limit = rw c.as_slice.ensures.value short in
    subst (λ (b : List ℕ). IfTextRefused c.read.result (WrongBuffers b)) e (refused_wrong c.as_slice.result.now c.read.result read c.read.ensures.refused)
