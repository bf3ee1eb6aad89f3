use Rattle.form_refusals.proofs.Over.{limit_stops}
use Rattle.form_refusals.proofs.laws.limit_is_refused.Goals as goal

pub returns : goal.returns
returns c = λ bytes s l. limit_stops bytes s l
