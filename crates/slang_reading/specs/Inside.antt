-- What a `Tokens` shows.
use Rattle.std.specs.Prelude.{◌≤◌, length}
use Rattle.slang_reading.specs.declared.cursor.Tokens.TheInside.{Inside}
use Rattle.slang_reading.specs.Lexed.{lexed_all}
use Rattle.slang_reading.specs.Cursor.{Cursor}

abbrev pub cursor_of : Inside → Cursor
cursor_of t = record { tokens = lexed_all t.text.now t.tokens.now; at = t.at; seen = t.seen }

pub record IsWithin (t : Inside) : Type 0 where
  pub at : t.at ≤ length t.tokens.now
