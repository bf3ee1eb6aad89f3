use Rattle.std.proofs.Common.{arith}
use Rattle.slang_reading.specs.Lexed.{lexed_all}
use Rattle.form_sizes.proofs.Tokens.{tokens_sized, tokens_within}
use Rattle.form_sizes.proofs.Files.{file_bytes}
use Rattle.form_sizes.proofs.Forms.{form_bytes}
use Rattle.form_sizes.proofs.laws.forms_are_short.Goals as goal

pub returns : goal.returns
returns c = record {
  short = λ text tokens file shader t f e.
      let a = form_bytes file shader e in
      let b = file_bytes (lexed_all text tokens) (tokens_sized text tokens t) f in
      let d = tokens_within text tokens t in
      omega (arith, a, b, d);
}
