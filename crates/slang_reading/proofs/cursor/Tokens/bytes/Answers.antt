use Rattle.std.proofs.Common.{ap}
use Rattle.slang_reading.specs.Cursor.{Cursor}
use Rattle.slang_reading.proofs.Lexing.{bytes_seen, none_seen}
use Rattle.slang_reading.proofs.cursor.Tokens.bytes.Goals as goal

pub returns-in-Some : goal.returns-in-Some
returns-in-Some c =
    bytes_seen c.self.inside.text.now c.self.inside.tokens.now c.self.inside.at c.in-Some.token c.cut.result.now c.args.self.now c.in-Some.ensures c.cut.ensures
    (ap (λ (v : Cursor). v.tokens) c.self.view_is) (ap (λ (v : Cursor). v.at) c.self.view_is)

pub returns-in-None : goal.returns-in-None
returns-in-None c =
    none_seen c.self.inside.text.now c.self.inside.tokens.now c.self.inside.at _ c.args.self.now c.in-None.ensures
    (ap (λ (v : Cursor). v.tokens) c.self.view_is) (ap (λ (v : Cursor). v.at) c.self.view_is)
