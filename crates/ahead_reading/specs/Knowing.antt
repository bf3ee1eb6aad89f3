-- What it is to know the scans of a text, and to look ahead.
use Rattle.std.specs.Prelude.{◌≡◌, ◌≤◌, ◌<◌, ℕ, ◌+◌, max, Bool, true, false, List, length, drop, Option, Some, None, IfSome}
use Rattle.slang_tokens.specs.declared.tokens.Kind.{Kind}
use Rattle.slang_tokens.specs.declared.tokens.Kind.TheVariants as k
use Rattle.slang_tokens.specs.declared.tokens.Mark.TheVariants as m
use Rattle.slang_tokens.specs.declared.tokens.Token.{Token}
use Rattle.slang_reading.specs.Kinds.{is_mark}
use Rattle.slang_reading.specs.Lexed.{Lexed}
use Rattle.slang_reading.specs.Cursor.{Cursor, run}
use Rattle.slang_reading.specs.Reading.{Outcome, Done, Stop, Parser, first}
use Rattle.type_reading.specs.declared.limits.Limits.{Limits}
use Rattle.type_reading.specs.Scanning.{scanned}
use Rattle.ahead_reading.specs.declared.scans.Known.{Known}
use Rattle.ahead_reading.specs.declared.scans.Known.TheVariants.{Unknown, Closed, Stopped}
use Rattle.ahead_reading.specs.declared.scans.Scans.{Scans}

-- it tells the outcome of a scan that began when so many tokens had been looked at
abbrev pub Tells : Known → ℕ → Outcome (Unit {0}) → Type 0
Tells Unknown seen o = Unit {0}
Tells (Closed to) seen o = o ≡ Done tt to (max seen to)
Tells (Stopped far) seen o = o ≡ Stop (max seen far)

-- what is known of each token is so
unfoldable pub Knows : Scans → List Lexed → Type 0
Knows scans ts = (at seen : ℕ) → IfSome (first (drop at scans.known)) (λ known. Tells known seen (scanned ts at seen))

-- it tells an outcome
abbrev pub Told : Option Known → Type 0
Told (Some Unknown) = ⊥
Told (Some (Closed to)) = Unit {0}
Told (Some (Stopped far)) = Unit {0}
Told None = ⊥

-- the outcome of the scan from that token on is told
abbrev pub ToldAt : Scans → ℕ → Type 0
ToldAt scans at = Told (first (drop at scans.known))

-- it is of as many tokens, and what was told is still told
unfoldable pub Grows : Scans → Scans → Type 0
Grows old new = (length new.known ≡ length old.known) × ((at : ℕ) → ToldAt old at → ToldAt new at)

abbrev pub names : Kind → Bool
names k.Name = true
names _ = false

-- the token is a name
abbrev pub is_name : Option Token → Bool
is_name (Some token) = names token.kind
is_name None = false

-- the token is `<`
abbrev pub is_less : Option Token → Bool
is_less (Some token) = is_mark m.Less token.kind
is_less None = false

-- what is told of the scan from `<` on is added, where that token is one
abbrev pub Fills : List Token → ℕ → Scans → Scans → Type 0
Fills tokens at old new = Grows old new × (is_less (first (drop at tokens)) ≡ true → at < length new.known → ToldAt new at)

-- so it is, where that token stands directly behind a name
abbrev pub FillsBehind : List Token → ℕ → Scans → Scans → Type 0
FillsBehind tokens begin old new =
    Grows old new × ((at : ℕ) → at + 1 ≡ begin → is_name (first (drop at tokens)) ≡ true → is_less (first (drop begin tokens)) ≡ true → begin < length new.known → ToldAt new begin)

-- the scan from each `<` on that stands directly behind a name is told
unfoldable pub TellsAll : Scans → List Token → Type 0
TellsAll scans tokens = (at : ℕ) → is_name (first (drop at tokens)) ≡ true → is_less (first (drop (at + 1) tokens)) ≡ true → ToldAt scans (at + 1)

-- a loop may make as many turns as there are tokens, and what is known of the scans is so
unfoldable pub Ready : Limits → Scans → List Lexed → Type 0
Ready limits scans ts = (length ts ≤ limits.turns) × Knows scans ts

-- whether the parser reads something here; the cursor stands where it stood and has looked as far
abbrev pub Foresees : {A : Type 0} → Parser A → Cursor → Bool → Cursor → Type 0
Foresees {A} p old true new = ((a : A) × (to : ℕ) × (run p old ≡ Done a to new.seen)) × (new.at ≡ old.at) × (new.tokens ≡ old.tokens)
Foresees p old false new = (run p old ≡ Stop new.seen) × (new.at ≡ old.at) × (new.tokens ≡ old.tokens)
