use Rattle.type_rules.proofs.Leading.{leads_iff}
use Rattle.type_rules.proofs.laws.leading_back_is_by_edges.Goals as goal

pub returns : goal.returns
returns c = leads_iff
