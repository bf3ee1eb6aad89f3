use Rattle.spirv_check.proofs.Once.{one_fault, no_fault}
use Rattle.spirv_check.proofs.laws.an_image_has_one_first_fault.Goals as goal

pub returns-clause-once : goal.returns-clause-once
returns-clause-once c = one_fault

pub returns-clause-never_valid : goal.returns-clause-never_valid
returns-clause-never_valid c = λ image place code v f. no_fault image place code v f
