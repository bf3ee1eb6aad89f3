use Rattle.image_places.proofs.Firsts.{some_fault, no_fault}
use Rattle.image_places.proofs.laws.the_first_wrong_instruction_is_the_first_fault.Goals as goal

pub returns-clause-some : goal.returns-clause-some
returns-clause-some c is wrong k within here before = some_fault is wrong k within here before

pub returns-clause-none : goal.returns-clause-none
returns-clause-none c is wrong none = no_fault is wrong none
