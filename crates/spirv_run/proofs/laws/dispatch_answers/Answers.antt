use Rattle.spirv_run.proofs.Ends.{no_want, refused, runs}
use Rattle.spirv_run.proofs.laws.dispatch_answers.Goals as goal

pub returns-clause-no_want : goal.returns-clause-no_want
returns-clause-no_want c = no_want

pub returns-clause-refused : goal.returns-clause-refused
returns-clause-refused c = refused

pub returns-clause-runs : goal.returns-clause-runs
returns-clause-runs c = λ image entry groups steps before after answer named few all undefined unfinished is.
    runs image groups steps before after undefined unfinished entry answer named few all is
