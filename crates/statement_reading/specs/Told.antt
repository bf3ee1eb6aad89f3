-- What it is to tell whether a parser reads something.
use Rattle.std.specs.Prelude.{◌≡◌, Bool, true, false}
use Rattle.slang_reading.specs.Reading.{Done, Stop, Parser}
use Rattle.slang_reading.specs.Cursor.{Cursor, run}

-- where it does the cursor stands behind what was read
abbrev pub Told : Parser (Unit {0}) → Cursor → Bool → Cursor → Type 0
Told p old true new = run p old ≡ Done tt new.at new.seen
Told p old false new = run p old ≡ Stop new.seen
