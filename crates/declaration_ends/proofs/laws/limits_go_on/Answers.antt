use Rattle.slang_reading.specs.Reading.{Past}
use Rattle.declaration_ends.proofs.Wrong.{looked, limits_go_on, limits_decide}
use Rattle.declaration_ends.proofs.laws.limits_go_on.Goals as goal

pub returns-clause-goes_on : goal.returns-clause-goes_on
returns-clause-goes_on c = λ ts limits nodes at code place e. limits_go_on ts limits nodes at code place e

pub returns-clause-decides : goal.returns-clause-decides
returns-clause-decides c = λ ts limits nodes at code place more e lt. limits_decide ts limits nodes at code place more e lt

pub returns-clause-looked : goal.returns-clause-looked
returns-clause-looked c = λ ts limits nodes seen code place e. looked ts limits nodes (Past code place seen) e
