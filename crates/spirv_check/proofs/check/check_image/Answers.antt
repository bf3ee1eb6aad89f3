use Rattle.spirv_check.proofs.Once.{answered_if_valid, answered_if_invalid}
use Rattle.spirv_check.proofs.check.check_image.Goals as goal

pub returns-clause-if_valid : goal.returns-clause-if_valid
returns-clause-if_valid c = answered_if_valid c.args.image c.checked.result c.checked.ensures.valid c.checked.ensures.invalid

pub returns-clause-if_invalid : goal.returns-clause-if_invalid
returns-clause-if_invalid c = answered_if_invalid c.args.image c.checked.result c.checked.ensures.valid c.checked.ensures.invalid
