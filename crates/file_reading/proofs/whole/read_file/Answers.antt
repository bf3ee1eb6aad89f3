use Rattle.std.proofs.Common.{rules, ◌≡◌, ◌≤◌, List, length, subst, sym}
use Rattle.slang_tokens.specs.declared.tokens.Token.{Token}
use Rattle.slang_tokens.proofs.Cuts.{none_refused}
use Rattle.file_reading.proofs.Cuts.{few, refused_at}
use Rattle.file_reading.proofs.whole.read_file.Goals as goal

pub read_tokens-requires-clause-few : goal.read_tokens-requires-clause-few
read_tokens-requires-clause-few c =
    let e : c.as_slice.result.now ≡ c.in-Ok.tokens = search rules in
    subst (λ (ts : List Token). length ts ≤ length c.args.text.now) (sym e) (few c.args.text.now c.in-Ok.tokens c.in-Ok.ensures.ok)

pub returns-in-Ok-clause-cut : goal.returns-in-Ok-clause-cut
returns-in-Ok-clause-cut c = λ place code h r. absurd (none_refused c.args.text.now 0 place code c.in-Ok.tokens r c.in-Ok.ensures.ok)

pub returns-in-Err-clause-cut : goal.returns-in-Err-clause-cut
returns-in-Err-clause-cut c = λ place code h r. refused_at c.args.text.now c.lex.result c.in-Err.fault c.in-Err.is c.lex.ensures.refused place code r
