use Rattle.std.proofs.Common.{◌≡◌, true, subst}
use Rattle.type_terms.specs.Types.{same}
use Rattle.type_terms.proofs.Sames.{type_one}
use Rattle.type_terms.proofs.Selves.{type_self}
use Rattle.type_terms.proofs.laws.sameness_is_equality.Goals as goal

pub returns : goal.returns
returns c = λ a b. (type_one a b, λ e. subst (λ z. same a z ≡ true) e (type_self a))
