use Rattle.core_laws.proofs.Modules.{module_tells}
use Rattle.core_laws.proofs.laws.tree_tells_core.Goals as goal

pub returns : goal.returns
returns c = λ x y e. module_tells x y e
