-- The limits that the program is given, as those of the descent.
use Rattle.std.specs.Prelude.{false}
use Rattle.type_reading.specs.declared.limits.Limits.{Limits}
use Rattle.slang_grammar.specs.Descent as descent

abbrev pub limits_of : Limits → descent.Limits
limits_of l = record { turns = l.turns; items = l.items; names = l.names; free = false }

-- those of the language: bytes of a text, items of a list, bytes of a name
abbrev pub language : descent.Limits
language = record { turns = 1048576; items = 256; names = 64; free = false }
