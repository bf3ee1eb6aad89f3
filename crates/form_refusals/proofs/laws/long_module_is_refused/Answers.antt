use Rattle.form_refusals.proofs.Refused.{long_module}
use Rattle.form_refusals.proofs.laws.long_module_is_refused.Goals as goal

pub returns : goal.returns
returns c = λ bytes x rest p e m l. long_module bytes x rest p e m l
