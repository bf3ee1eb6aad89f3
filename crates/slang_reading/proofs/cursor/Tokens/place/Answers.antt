use Rattle.std.proofs.Common.{◌∙◌, ap}
use Rattle.std.specs.Option.{option_map}
use Rattle.slang_reading.specs.Lexed.{lexed}
use Rattle.slang_reading.specs.Reading.{place_of}
use Rattle.slang_reading.specs.Cursor.{Cursor}
use Rattle.slang_reading.proofs.Lexing.{place_seen}
use Rattle.slang_reading.proofs.cursor.Tokens.place.Goals as goal

pub returns-in-Some : goal.returns-in-Some
returns-in-Some c =
    ap (λ o. place_of (option_map (lexed c.self.inside.text.now) o)) c.in-Some.ensures
    ∙ place_seen c.self.inside.text.now c.self.inside.tokens.now c.self.inside.at c.args.self.now
    (ap (λ (v : Cursor). v.tokens) c.self.view_is) (ap (λ (v : Cursor). v.at) c.self.view_is)

pub returns-in-None : goal.returns-in-None
returns-in-None c =
    ap (λ o. place_of (option_map (lexed c.self.inside.text.now) o)) c.in-None.ensures
    ∙ place_seen c.self.inside.text.now c.self.inside.tokens.now c.self.inside.at c.args.self.now
    (ap (λ (v : Cursor). v.tokens) c.self.view_is) (ap (λ (v : Cursor). v.at) c.self.view_is)
