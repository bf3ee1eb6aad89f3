use Rattle.form_laws.proofs.Refusals.{module_limit}
use Rattle.form_laws.proofs.laws.limit_refusal.Goals as goal

pub returns : goal.returns
returns c = λ bytes s p e k. module_limit bytes s p e k
