-- Which cores can be spelled, in plain words.
use Rattle.std.specs.Prelude.{◌<◌, ◌≤◌, ◌^◌, ⊤, length}
use Rattle.form_grammar.specs.Trees.{Tree, nothing, byte, number, text, ◌▸◌, tagged, nested, many, end, ◌⨾◌, size}

-- Behind a tag a byte stands last in vectors alone. It is the number of scalars, 2 to 4.
abbrev pub HasLanes : Tree → Type 0
HasLanes (x ▸ byte n) = (2 ≤ n) × (n ≤ 4)
HasLanes _ = ⊤

-- Names have 1 to 255 bytes, numbers and the counts of lists are below 2 ^ 32, and vectors have 2 to 4 scalars.
abbrev pub IsPlain : Tree → Type 0
IsPlain nothing = ⊤
IsPlain (byte b) = b < 256
IsPlain (number n) = n < 2 ^ 32
IsPlain (text bytes) = (0 < length bytes) × (length bytes < 256)
IsPlain (x ▸ y) = IsPlain x × IsPlain y
IsPlain (tagged k x) = HasLanes x × IsPlain x
IsPlain (nested x) = IsPlain x
IsPlain (many xs) = (size xs < 2 ^ 32) × IsPlain xs
IsPlain end = ⊤
IsPlain (x ⨾ xs) = IsPlain x × IsPlain xs
