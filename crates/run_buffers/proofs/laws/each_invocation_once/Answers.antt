use Rattle.run_buffers.proofs.Places.{group_is_place, local_is_place, number_of_ids, reached}
use Rattle.run_buffers.proofs.laws.each_invocation_once.Goals as goal

pub returns-clause-group : goal.returns-clause-group
returns-clause-group c = group_is_place

pub returns-clause-local : goal.returns-clause-local
returns-clause-local c = local_is_place

pub returns-clause-number : goal.returns-clause-number
returns-clause-number c = number_of_ids

pub returns-clause-reached : goal.returns-clause-reached
returns-clause-reached c = reached
