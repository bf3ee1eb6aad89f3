use Rattle.form_refusals.proofs.Refused.{long_stop}
use Rattle.form_refusals.proofs.laws.long_reading_is_refused.Goals as goal

pub returns : goal.returns
returns c = λ bytes s p e m l. long_stop bytes s p e m l
