use Rattle.module_form.proofs.Decoded.{same_core}
use Rattle.module_form.proofs.laws.one_core.Goals as goal

pub returns : goal.returns
returns c = λ m n bytes p q. same_core m n bytes p q
