use Rattle.std.proofs.Common.{ap, ◌∙◌}
use Rattle.spirv_words.specs.Words.{image_words}
use Rattle.slang_cli.proofs.Named.{short_name}
use Rattle.slang_cli.proofs.compile.image_words_of.Goals as goal

pub emit-requires-clause-home_is_text : goal.emit-requires-clause-home_is_text
emit-requires-clause-home_is_text c = (short_name c.args.home.now c.requires.home).0

pub returns : goal.returns
returns c = c.in_ok-words.ensures ∙ ap image_words c.in_ok-made.ensures.image
