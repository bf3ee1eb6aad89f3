use Rattle.shader_kernel.proofs.Programs.{means_extend, means_determined}
use Rattle.core_reading.specs.Source.{read_program}
use Rattle.core_reading.proofs.laws.more_extends_a_source.Goals as goal

pub returns-clause-extends : goal.returns-clause-extends
returns-clause-extends c = λ p bindings. means_extend (read_program p bindings)

pub returns-clause-determined : goal.returns-clause-determined
returns-clause-determined c = λ p bindings. means_determined (read_program p bindings)
