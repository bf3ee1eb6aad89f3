use Rattle.flat_values.proofs.Counts.{count, same}
use Rattle.flat_values.proofs.laws.values_are_their_words.Goals as goal

pub returns : goal.returns
returns c = record { count = count; one_value = same }
