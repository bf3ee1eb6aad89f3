use Rattle.typed_runs.proofs.Known.{known}
use Rattle.typed_runs.proofs.Begins.{start_is_typed}
use Rattle.typed_runs.proofs.Steps.{step_is_typed}
use Rattle.typed_runs.proofs.laws.states_stay_typed.Goals as goal

pub returns : goal.returns
returns c = record {
  begins = λ image v ids lengths. start_is_typed image.instructions (known image v) ids lengths;
  step_keeps = λ image v ids lengths s typed. step_is_typed image.instructions (known image v) ids lengths s typed;
}
