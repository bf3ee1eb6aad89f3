use Rattle.form_refusals.proofs.Refused.{answered}
use Rattle.form_refusals.proofs.laws.all_are_answered.Goals as goal

pub returns : goal.returns
returns c = λ bytes p. answered bytes p
