use Rattle.spirv_words.proofs.Fitting.{fit, none_wrong}
use Rattle.spirv_words.proofs.Sizes.{first_size, second_size, third_size}
use Rattle.spirv_words.proofs.laws.the_wrong_word_is_the_first.Goals as goal

pub returns-clause-fit : goal.returns-clause-fit
returns-clause-fit c = λ op os. (none_wrong op os, fit op os)

pub returns-clause-first_size : goal.returns-clause-first_size
returns-clause-first_size c = first_size

pub returns-clause-second_size : goal.returns-clause-second_size
returns-clause-second_size c = second_size

pub returns-clause-third_size : goal.returns-clause-third_size
returns-clause-third_size c = third_size
