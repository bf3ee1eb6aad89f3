use Rattle.std.proofs.Common.{string_bytes}
use Rattle.slang_cli.proofs.Parsing.{other_count}
use Rattle.slang_cli.proofs.command.parse_compile.Goals as goal

pub returns-then-words-ne3-clause-command : goal.returns-then-words-ne3-clause-command
returns-then-words-ne3-clause-command c = other_count string_bytes c.args.words.now c.if-words-ne3.true
