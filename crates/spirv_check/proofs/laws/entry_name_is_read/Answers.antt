use Rattle.spirv_check.proofs.Names.{text_read}
use Rattle.spirv_check.proofs.laws.entry_name_is_read.Goals as goal

pub returns : goal.returns
returns c = text_read
