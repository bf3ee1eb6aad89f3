use Rattle.slang_tokens.specs.Tables.{word_of}
use Rattle.slang_tokens.proofs.tables.word_of.Goals as goal

pub returns : goal.returns
unfolding word_of
returns c = c.look_up.ensures
