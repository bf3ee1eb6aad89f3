use Rattle.slang_reading.specs.Reading.{Stop}
use Rattle.declaration_ends.proofs.Wrong.{looked, stops_within, files_go_on, no_file}
use Rattle.declaration_ends.proofs.laws.files_go_on.Goals as goal

pub returns-clause-goes_on : goal.returns-clause-goes_on
returns-clause-goes_on c = λ ts limits nodes at e. files_go_on ts limits nodes at e

pub returns-clause-within : goal.returns-clause-within
returns-clause-within c = λ ts limits nodes at e. stops_within ts limits nodes at e

pub returns-clause-goes_no_further : goal.returns-clause-goes_no_further
returns-clause-goes_no_further c = λ ts limits nodes at more x e lt s. no_file ts limits nodes at more x e lt s

pub returns-clause-looked : goal.returns-clause-looked
returns-clause-looked c = λ ts limits nodes seen e. looked ts limits nodes (Stop seen) e
