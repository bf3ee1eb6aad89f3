-- The brackets that are open while a text is scanned, the innermost first, and what is true of the scans that begin at them.
use Rattle.std.specs.Prelude.{◌≡◌, ◌<◌, ℕ, ◌+◌, max, List, [], ◌∷◌, ◌++◌, length, drop, reverse, Some}
use Rattle.slang_tokens.specs.declared.tokens.Kind.{Kind}
use Rattle.slang_reading.specs.Lexed.{Lexed}
use Rattle.slang_reading.specs.Reading.{Stop, first}
use Rattle.type_reading.specs.declared.steps.Open.{Open}
use Rattle.type_reading.specs.declared.steps.Open.TheVariants as open_variants
use Rattle.type_reading.specs.declared.steps.Awaited.{Awaited}
use Rattle.type_reading.specs.declared.steps.Awaited.TheVariants.{Typed}
use Rattle.type_reading.specs.Scanning.{scan, scanned}
use Rattle.ahead_reading.specs.declared.scans.Scans.{Scans}
use Rattle.ahead_reading.specs.Knowing.{Knows, ToldAt, Grows}
use Rattle.ahead_reading.specs.declared.brackets.Bracket.{Bracket}
use Rattle.ahead_reading.specs.declared.brackets.Bracket.TheVariants as b
use Rattle.ahead_reading.specs.declared.brackets.Brackets.{Brackets}
use Rattle.ahead_reading.specs.declared.brackets.Next.{Next}
use Rattle.ahead_reading.specs.declared.brackets.Next.TheVariants.{Goes, Ended, Refused}

abbrev pub open_of : Bracket → Open
open_of (b.Many begin) = open_variants.Many
open_of b.One = open_variants.One

-- all that are open
abbrev pub all_of : Brackets → List Bracket
all_of x = x.top ∷ reverse x.under

-- the outermost, by the innermost and those around it, the outermost of them first
abbrev pub outermost_of : Bracket → List Bracket → Bracket
outermost_of top [] = top
outermost_of top (x ∷ xs) = x

abbrev pub outermost : Brackets → Bracket
outermost x = outermost_of x.top x.under

-- the scan that begins at the bracket is told, if it is one of the text
abbrev pub ToldOf : Scans → Bracket → Type 0
ToldOf scans (b.Many begin) = begin < length scans.known → ToldAt scans begin
ToldOf scans b.One = Unit {0}

-- the scan that begins at the bracket comes here with those open, itself the last of them
abbrev pub Comes : List Lexed → Awaited → ℕ → List Open → Bracket → Type 0
Comes ts w at u (b.Many begin) = (seen : ℕ) → scan (drop at ts) u w at (max seen at) ≡ scanned ts begin seen
Comes ts w at u b.One = Unit {0}

-- so do all scans of these brackets, behind those that are open inside of them
abbrev pub Come : List Lexed → Awaited → ℕ → List Open → List Bracket → Type 0
Come ts w at inside [] = Unit {0}
Come ts w at inside (x ∷ xs) = Comes ts w at (inside ++ open_of x ∷ []) x × Come ts w at (inside ++ open_of x ∷ []) xs

-- so do the scans of all brackets that are open
unfoldable pub AllCome : List Lexed → ℕ → Brackets → Type 0
AllCome ts at x = Come ts x.awaited at [] (all_of x)

-- the scan that begins at the bracket stops where so many tokens have been looked at
abbrev pub Stops : List Lexed → ℕ → Bracket → Type 0
Stops ts far (b.Many begin) = (seen : ℕ) → scanned ts begin seen ≡ Stop (max seen far)
Stops ts far b.One = Unit {0}

abbrev pub AllStop : List Lexed → ℕ → List Bracket → Type 0
AllStop ts far [] = Unit {0}
AllStop ts far (x ∷ xs) = Stops ts far x × AllStop ts far xs

-- behind a token that was taken, or that is refused
abbrev pub Behind : List Lexed → ℕ → Next → Brackets → Type 0
Behind ts at Goes x = AllCome ts at x
Behind ts at Ended x = Unit {0}
Behind ts at Refused x = AllStop ts at (all_of x)

-- the innermost bracket is closed
abbrev pub Popped : Brackets → Next → Brackets → Type 0
Popped old Goes new = (reverse old.under ≡ all_of new) × (new.awaited ≡ Typed)
Popped old Ended new = reverse old.under ≡ []
Popped old Refused new = ⊥

-- what a token of that kind does to the brackets and to what is known
abbrev pub Takes : ℕ → Kind → Brackets → Scans → Next → Brackets → Scans → Type 0
Takes at kind old known next new told =
    (ts : List Lexed) (t : Lexed) → first (drop at ts) ≡ Some t → t.kind ≡ kind → AllCome ts at old → Knows known ts → Behind ts (at + 1) next new × Knows told ts

-- the outermost bracket stays so, or was the innermost
abbrev pub Outermost : Brackets → Next → Brackets → Type 0
Outermost old Goes new = outermost new ≡ outermost old
Outermost old Ended new = outermost old ≡ old.top
Outermost old Refused new = outermost new ≡ outermost old

-- what was told is still told, and the outermost bracket stays so or is told
abbrev pub Adds : Brackets → Scans → Next → Brackets → Scans → Type 0
Adds old known Goes new told = Grows known told × (outermost new ≡ outermost old)
Adds old known Ended new told = Grows known told × ToldOf told (outermost old)
Adds old known Refused new told = Grows known told × (outermost new ≡ outermost old)
