-- A line of a text with a part of it marked below.
use Rattle.std.specs.Prelude.{ℕ, Bool, ◌+◌, ◌-◌, ◌≡◌, ◌==◌, ◌&&◌, ◌||◌, not, nat_le, if◌then◌else◌, List, [], ◌∷◌, ◌++◌, length, take, drop, Option, Some, None}
use Rattle.std.specs.List.{filter_map}
use Rattle.refusal_lines.specs.declared.rows.Row.{Row}
use Rattle.refusal_lines.specs.declared.rows.Row.TheVariants as row
use Rattle.refusal_lines.specs.Positions.{IsLineStart, IsLineEnd}

-- a byte of a character of several bytes, other than the first
abbrev pub is_behind_first : ℕ → Bool
is_behind_first b = nat_le 128 b && nat_le b 191

-- a tab, or no control byte
abbrev pub is_shown : ℕ → Bool
is_shown b = b == 9 || (nat_le 32 b && not (b == 127))

-- what a row has for a byte
abbrev pub piece : Row → ℕ → Option ℕ
piece row.Text b = Some (if is_shown b then b else 32)
piece row.Blank b = if is_behind_first b then None else Some (if b == 9 then 9 else 32)
piece row.Mark b = if is_behind_first b then None else Some 94

-- what a row has for bytes
abbrev pub pieces : Row → List ℕ → List ℕ
pieces row bytes = filter_map (piece row) bytes

-- the bytes of a text from a place up to before another
abbrev pub between : List ℕ → ℕ → ℕ → List ℕ
between text from to = take (to - from) (drop from text)

-- marks below bytes, and one where that gives none
abbrev pub marks : List ℕ → List ℕ
marks row = if nat_le 1 (length row) then row else 94 ∷ []

-- where what is shown of a line begins: at most 60 bytes before the place
abbrev pub shown_from : ℕ → ℕ → ℕ
shown_from start place = if nat_le (place - start) 60 then start else place - 60

-- and where it ends: at most 160 bytes behind that
abbrev pub shown_to : ℕ → ℕ → ℕ
shown_to from end = if nat_le (end - from) 160 then end else from + 160

-- where the marks end: with what is marked, or with what is shown
abbrev pub marked_to : ℕ → ℕ → ℕ → ℕ
marked_to place end to = if nat_le end place then place else (if nat_le end to then end else to)

-- a line, and below it blanks below what stands before the marks, and the marks
abbrev pub rows : List ℕ → List ℕ → List ℕ → List ℕ
rows line before marked = pieces row.Text line ++ (10 ∷ (pieces row.Blank before ++ (marks (pieces row.Mark marked) ++ (10 ∷ []))))

-- what is shown of the line of a place
abbrev pub IsShown : List ℕ → ℕ → ℕ → ℕ → Type 0
IsShown text place from to =
    (start : ℕ) × (end : ℕ) × IsLineStart text place start × IsLineEnd text place end × (from ≡ shown_from start place) × (to ≡ shown_to from end)

-- the line of a place, and below it marks from the place up to the end, or up to the end of what is shown
abbrev pub IsPicture : List ℕ → ℕ → ℕ → List ℕ → Type 0
IsPicture text place end picture =
    (from : ℕ) × (to : ℕ) × IsShown text place from to
    × (picture ≡ rows (between text from to) (between text from place) (between text place (marked_to place end to)))
