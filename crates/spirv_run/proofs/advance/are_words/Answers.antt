use Rattle.spirv_run.proofs.Words.{all_words}
use Rattle.spirv_run.proofs.advance.are_words.Goals as goal

pub returns : goal.returns
returns c = all_words c.args.words.now c.type_inv.words
