use Rattle.slang_tokens.specs.Tables.{mark_of}
use Rattle.slang_tokens.proofs.tables.mark_of.Goals as goal

pub returns : goal.returns
unfolding mark_of
returns c = c.look_up.ensures
