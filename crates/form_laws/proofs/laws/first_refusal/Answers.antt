use Rattle.form_laws.proofs.Refusals.{module_stops}
use Rattle.form_laws.proofs.laws.first_refusal.Goals as goal

pub returns : goal.returns
returns c = λ bytes s p e. module_stops bytes s p e
