use Rattle.run_laws.proofs.Steps.{machines_step}
use Rattle.run_laws.proofs.laws.the_machines_step_together.Goals as goal

pub returns : goal.returns
returns c = machines_step
