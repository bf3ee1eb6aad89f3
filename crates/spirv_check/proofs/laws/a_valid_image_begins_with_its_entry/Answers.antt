use Rattle.spirv_check.proofs.Begins.{begins}
use Rattle.spirv_check.proofs.laws.a_valid_image_begins_with_its_entry.Goals as goal

pub returns : goal.returns
returns c = begins
