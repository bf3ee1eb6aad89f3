use Rattle.form_grammar.specs.Grammar.{module_form}
use Rattle.form_laws.proofs.Again.{form_again}
use Rattle.form_laws.proofs.laws.spelled_is_read.Goals as goal

pub returns : goal.returns
returns c = λ x rest p q. form_again x module_form 128 rest p q
