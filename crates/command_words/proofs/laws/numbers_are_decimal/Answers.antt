use Rattle.command_words.proofs.Decimals.{number_is_decimal, decimal_is_within}
use Rattle.command_words.proofs.laws.numbers_are_decimal.Goals as goal

pub returns : goal.returns
returns c = λ limit n word low. (λ e. number_is_decimal limit n word low e, λ e. decimal_is_within limit n word low e.0 e.1)
