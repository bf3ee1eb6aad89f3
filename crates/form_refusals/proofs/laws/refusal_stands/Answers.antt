use Rattle.form_refusals.proofs.Refused.{refused_where}
use Rattle.form_refusals.proofs.laws.refusal_stands.Goals as goal

pub returns : goal.returns
returns c = λ bytes s place p e n w. refused_where bytes s place p e n w
