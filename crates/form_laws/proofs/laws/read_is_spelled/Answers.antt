use Rattle.form_grammar.specs.Grammar.{module_form}
use Rattle.form_laws.proofs.Takes.{takes}
use Rattle.form_laws.proofs.Refusals.{module_sound}
use Rattle.form_laws.proofs.laws.read_is_spelled.Goals as goal

pub returns : goal.returns
returns c = λ bytes rest x p e. let t = takes 128 module_form bytes x rest module_sound p e in (t.form, t.fits, t.parts)
