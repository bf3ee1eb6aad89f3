use Rattle.slang_parse.proofs.Texts.{one_spelled}
use Rattle.slang_parse.proofs.laws.tokens_spell_one_file.Goals as goal

pub returns : goal.returns
returns c = one_spelled c.files_are_answered.ensures c.files_are_read.ensures.answered
