use Rattle.module_scope.proofs.Inner.{innermost_first}
use Rattle.module_scope.proofs.laws.an_inner_local_is_found_first.Goals as goal

pub returns : goal.returns
returns c = innermost_first
