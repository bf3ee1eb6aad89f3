use Rattle.form_grammar.specs.Grammar.{module_form}
use Rattle.form_laws.proofs.Same.{same}
use Rattle.form_laws.proofs.laws.one_form.Goals as goal

pub returns : goal.returns
returns c = λ x y a b p q e. same x module_form y a b p q e
