use Rattle.core_laws.proofs.PlainModules.{module_is}
use Rattle.core_laws.proofs.laws.plain_cores_are_spelled.Goals as goal

pub returns : goal.returns
returns c = λ m. ((module_is m).to, (module_is m).from)
