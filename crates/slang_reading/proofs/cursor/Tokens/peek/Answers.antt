use Rattle.std.proofs.Common.{ap}
use Rattle.slang_reading.specs.Cursor.{Cursor}
use Rattle.slang_reading.proofs.Lexing.{token_seen}
use Rattle.slang_reading.proofs.cursor.Tokens.peek.Goals as goal

pub returns-then-self-clause-token : goal.returns-then-self-clause-token
returns-then-self-clause-token c =
    token_seen c.self.inside.text.now c.self.inside.tokens.now c.self.inside.at c.token_at-token.result c.args.self.now c.token_at-token.ensures
    (ap (λ (v : Cursor). v.tokens) c.self.view_is) (ap (λ (v : Cursor). v.at) c.self.view_is)

pub returns-else-self-clause-token : goal.returns-else-self-clause-token
returns-else-self-clause-token c =
    token_seen c.self.inside.text.now c.self.inside.tokens.now c.self.inside.at c.token_at-token.result c.args.self.now c.token_at-token.ensures
    (ap (λ (v : Cursor). v.tokens) c.self.view_is) (ap (λ (v : Cursor). v.at) c.self.view_is)
