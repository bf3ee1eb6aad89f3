use Rattle.flat_values.proofs.Zeros.{zero_is_of, zero_words}
use Rattle.flat_values.proofs.laws.zeros_are_zeros.Goals as goal

pub returns : goal.returns
returns c = record { is_of = zero_is_of; words = zero_words }
