use Rattle.slang_tokens.specs.Tables.{refused_of}
use Rattle.slang_tokens.proofs.tables.refused_of.Goals as goal

pub returns : goal.returns
unfolding refused_of
returns c = c.look_up.ensures
