use Rattle.std.proofs.Common.{arith}
use Rattle.spirv_words.proofs.Spelled.{words-from_read}
use Rattle.spirv_words.proofs.bytes.read_into.Goals as goal

pub returns : goal.returns
returns c = words-from_read c.args.bytes.now c.read_u32_into.new.dst (omega arith) c.read_u32_into.ensures
