-- A text, cut into the longest lexemes.
use Rattle.std.specs.Prelude.{◌≡◌, ℕ, ◌+◌, ◌-◌, List, [], ◌∷◌, drop, length, ◌⊎◌, Result, Ok, Err}
use Rattle.slang_names.specs.declared.places.Place.{Place}
use Rattle.slang_names.specs.declared.codes.ModuleCode.{ModuleCode}
use Rattle.slang_names.specs.declared.codes.ModuleCode.TheVariants as c
use Rattle.slang_names.specs.declared.faults.ModuleFault.{ModuleFault}
use Rattle.slang_names.specs.declared.faults.ModuleFault.TheVariants as f
use Rattle.slang_tokens.specs.declared.tokens.Kind.{Kind}
use Rattle.slang_tokens.specs.declared.tokens.Token.{Token}
use Rattle.slang_tokens.specs.declared.lexemes.Lexeme.TheVariants as x
use Rattle.slang_tokens.specs.Lexemes.{IsLongest}

abbrev pub place : ℕ → ℕ → Place
place start end = record { start = start; end = end }

-- From the index on the text is blanks and these tokens, each the longest lexeme that begins at its place.
pub data Cut (text : List ℕ) : ℕ → List Token → Type 0 where
  end : {at : ℕ} → at ≡ length text → Cut text at []
  blank : {at len : ℕ} {ts : List Token} → IsLongest (drop at text) x.Blank len → Cut text (at + len) ts → Cut text at ts
  token : {at len : ℕ} {kind : Kind} {ts : List Token} → IsLongest (drop at text) (x.Token kind) len → Cut text (at + len) ts →
      Cut text at (record { kind = kind; place = place at (at + len) } ∷ ts)

-- The tokens of the whole text.
abbrev pub Tokens : List ℕ → List Token → Type 0
Tokens text list = Cut text 0 list

-- The first lexeme from the index on that is refused lies at that place and has that code. A number whose suffix runs
-- on is refused up to the one byte behind its digits.
pub data Refuses (text : List ℕ) : ℕ → Place → ModuleCode → Type 0 where
  here : {at len : ℕ} {code : ModuleCode} → IsLongest (drop at text) (x.Refused code) len → Refuses text at (place at (at + len)) code
  runs_on : {at len : ℕ} → IsLongest (drop at text) x.RunsOn len → Refuses text at (place at (at + len - 1)) c.BadToken
  past_blank : {at len : ℕ} {p : Place} {code : ModuleCode} → IsLongest (drop at text) x.Blank len → Refuses text (at + len) p code → Refuses text at p code
  past_token : {at len : ℕ} {kind : Kind} {p : Place} {code : ModuleCode} → IsLongest (drop at text) (x.Token kind) len → Refuses text (at + len) p code → Refuses text at p code

-- From the index on the text is cut into tokens, or has a first lexeme that is refused.
abbrev pub IsWhole : List ℕ → ℕ → Type 0
IsWhole text at = ((list : List Token) × Cut text at list) ⊎ ((p : Place) × (code : ModuleCode) × Refuses text at p code)

-- the list, unless memory runs out
abbrev pub Finds : Result (List Token) ModuleFault → List Token → Type 0
Finds (Ok found) list = found ≡ list
Finds (Err (f.Memory e)) list = Unit {0}
Finds (Err (f.Refused p code)) list = ⊥
