use Rattle.shader_kernel.proofs.Programs.{means_extend, means_determined}
use Rattle.shader_kernel.proofs.laws.more_extends_a_run.Goals as goal

pub returns-clause-extends : goal.returns-clause-extends
returns-clause-extends c = λ p. means_extend p

pub returns-clause-determined : goal.returns-clause-determined
returns-clause-determined c = λ p. means_determined p
