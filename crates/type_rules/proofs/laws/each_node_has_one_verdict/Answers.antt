use Rattle.plans.proofs.Exact.{comes_iff, wrong_iff}
use Rattle.type_lines.specs.Classes.{Answer}
use Rattle.type_rules.proofs.laws.each_node_has_one_verdict.Goals as goal

pub returns-clause-comes : goal.returns-clause-comes
returns-clause-comes c = comes_iff Answer

pub returns-clause-wrong : goal.returns-clause-wrong
returns-clause-wrong c = wrong_iff Answer
