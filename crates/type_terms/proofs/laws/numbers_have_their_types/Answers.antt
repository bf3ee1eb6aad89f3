use Rattle.type_terms.proofs.Sized.{same_number}
use Rattle.type_terms.proofs.laws.numbers_have_their_types.Goals as goal

pub returns : goal.returns
returns c = λ u n. same_number u n
