use Rattle.form_refusals.proofs.Refused.{module_not}
use Rattle.form_refusals.proofs.laws.no_module_is_refused.Goals as goal

pub returns : goal.returns
returns c = λ bytes x p c m r. module_not bytes x p c m r
