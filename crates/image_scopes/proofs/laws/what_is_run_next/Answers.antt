use Rattle.image_scopes.proofs.Onward.{next, branch, branch_conditional}
use Rattle.image_scopes.proofs.laws.what_is_run_next.Goals as goal

pub returns : goal.returns
returns c = record { behind = next; branch = branch; either = branch_conditional }
