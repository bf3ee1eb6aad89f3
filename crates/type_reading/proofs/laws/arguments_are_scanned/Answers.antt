use Rattle.type_reading.proofs.Scanned.{arguments_scanned}
use Rattle.type_reading.proofs.laws.arguments_are_scanned.Goals as goal

pub returns : goal.returns
returns c = arguments_scanned
