use Rattle.slang_cli.proofs.Told.{narrow_at}
use Rattle.slang_cli.proofs.compile.words_put.Goals as goal

pub returns-clause-narrow : goal.returns-clause-narrow
returns-clause-narrow c = narrow_at c.args.words.now c.type_inv.words
