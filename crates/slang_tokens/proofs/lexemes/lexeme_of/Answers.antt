use Rattle.std.proofs.Common.{arith, ◌∙◌}
use Rattle.slang_tokens.proofs.Fronts.{lexeme_empty, lexeme_split}
use Rattle.slang_tokens.proofs.lexemes.lexeme_of.Goals as goal

pub returns-then-bytes-eq0 : goal.returns-then-bytes-eq0
returns-then-bytes-eq0 c = lexeme_empty c.args.bytes.now (omega arith)

pub returns : goal.returns
returns c = c.by_first.ensures ∙ lexeme_split c.args.bytes.now (omega arith)
