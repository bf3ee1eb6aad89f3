-- The descent: parsers that read what the grammar spells, with the limits of the language. This file has what all of them
-- share.
use Rattle.std.specs.Prelude.{ℕ, Bool, ◌||◌, if◌then◌else◌, nat_le, nat_lt, length, Option, Some, None}
use Rattle.slang_names.specs.declared.places.Place.{Place}
use Rattle.slang_names.specs.declared.codes.ModuleCode.TheVariants as code
use Rattle.slang_tree.specs.declared.types.Identifier.{Identifier}
use Rattle.slang_tree.specs.declared.types.Term.{Term}
use Rattle.slang_tree.specs.declared.types.Term.TheVariants as term
use Rattle.slang_tokens.specs.declared.tokens.Kind.{Kind}
use Rattle.slang_tokens.specs.declared.tokens.Kind.TheVariants as k
use Rattle.slang_tokens.specs.declared.tokens.Mark.{Mark}
use Rattle.slang_reading.specs.Lexed.{Lexed}
use Rattle.slang_reading.specs.Reading.{Parser, Choice, Take, Refuse, if_fits, pure, next}
use Rattle.slang_reading.specs.Kinds.{is_mark}

-- How many turns a loop makes, items a list has, and bytes a name has, at most. A free parser lets lists and names be of any
-- length and chains of any height; the program's is not, but where it looks ahead, and is compared with one that is.
pub record Limits : Type 0 where
  pub turns : ℕ
  pub items : ℕ
  pub names : ℕ
  pub free : Bool

-- whether one more fits behind so many
abbrev pub fits_in : Limits → ℕ → ℕ → Bool
fits_in limits n most = limits.free || nat_lt n most

abbrev pub expected : Mark → Option Lexed → Choice Place
expected mark (Some t) = if is_mark mark t.kind then Take (pure t.place) else Refuse
expected mark None = Refuse

-- that mark, and where it lies
unfoldable pub expect : Mark → Parser Place
expect mark = next (expected mark)

-- a name token as a name of the tree
abbrev pub identifier : Lexed → Identifier
identifier t = record { place = t.place; name = t.bytes }

-- whether a name is short enough
abbrev pub is_short : Limits → Lexed → Bool
is_short limits t = limits.free || nat_le (length t.bytes) limits.names

-- what begins with a name, unless the name is too long
abbrev pub if_short : {A : Type 0} → Limits → Lexed → Choice A → Choice A
if_short limits t c = if_fits (is_short limits t) code.TooLong (Some t) c

abbrev pub named_by : Limits → Lexed → Kind → Choice Identifier
named_by limits t k.Name = if_short limits t (Take (pure (identifier t)))
named_by limits t _ = Refuse

abbrev pub named : Limits → Option Lexed → Choice Identifier
named limits (Some t) = named_by limits t t.kind
named limits None = Refuse

-- a name
unfoldable pub name : Limits → Parser Identifier
name limits = next (named limits)

abbrev pub termed_by : Limits → Lexed → Kind → Choice Term
termed_by limits t (k.Number v) = Take (pure (term.Number t.place v))
termed_by limits t k.Name = if_short limits t (Take (pure (term.Name (identifier t))))
termed_by limits t _ = Refuse

abbrev pub termed : Limits → Option Lexed → Choice Term
termed limits (Some t) = termed_by limits t t.kind
termed limits None = Refuse

-- a number or a name between brackets
unfoldable pub bracketed : Limits → Parser Term
bracketed limits = next (termed limits)
