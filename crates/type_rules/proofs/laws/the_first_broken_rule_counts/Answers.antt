use Rattle.type_rules.proofs.Told.{rule_holds, rule_broken}
use Rattle.type_rules.proofs.laws.the_first_broken_rule_counts.Goals as goal

pub returns-clause-holds : goal.returns-clause-holds
returns-clause-holds c = λ d b p k v. rule_holds b p k v

pub returns-clause-broken : goal.returns-clause-broken
returns-clause-broken c = λ d b p k v. rule_broken b p k v
