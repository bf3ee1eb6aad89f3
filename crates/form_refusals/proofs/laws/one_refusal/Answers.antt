use Rattle.form_refusals.proofs.Refused.{one_where}
use Rattle.form_refusals.proofs.laws.one_refusal.Goals as goal

pub returns : goal.returns
returns c = λ bytes p q c d r w. one_where bytes p q c d r w
