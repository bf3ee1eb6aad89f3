use Rattle.form_refusals.proofs.Refused.{trailing_where}
use Rattle.form_refusals.proofs.laws.trailing_is_refused.Goals as goal

pub returns : goal.returns
returns c = λ bytes x b rest p e l. trailing_where bytes x b rest p e l
