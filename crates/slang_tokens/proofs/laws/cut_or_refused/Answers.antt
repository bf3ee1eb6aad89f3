use Rattle.slang_tokens.proofs.Cuts.{none_refused}
use Rattle.slang_tokens.proofs.Total.{whole}
use Rattle.slang_tokens.proofs.laws.cut_or_refused.Goals as goal

pub returns-clause-one : goal.returns-clause-one
returns-clause-one c = whole

pub returns-clause-not_both : goal.returns-clause-not_both
returns-clause-not_both c = λ text list place code t r. none_refused text 0 place code list r t
