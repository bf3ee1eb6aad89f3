-- A statement that begins with a type may declare locals or may change a place. Both may begin alike, and without the
-- limits what begins with a type and a name is a declaration. It is one already where the type cannot be the beginning of
-- an expression: a word of a resource, a word of another type without `(` behind it, or a name with arguments and `[`.
use Rattle.std.specs.Prelude.{ℕ, ◌+◌, Bool, true, false, List, [], Option, Some, None}
use Rattle.slang_tree.specs.declared.types.Identifier.{Identifier}
use Rattle.slang_tree.specs.declared.types.TypeNode.TheVariants as n
use Rattle.slang_tokens.specs.declared.tokens.Kind.{Kind}
use Rattle.slang_tokens.specs.declared.tokens.Kind.TheVariants as k
use Rattle.slang_tokens.specs.declared.tokens.Mark.TheVariants as m
use Rattle.slang_reading.specs.Lexed.{Lexed}
use Rattle.slang_reading.specs.Reading.{Parser, Choice, Leave, Take, Refuse, ◌>>=◌, ◌>>◌, pure, next, turns}
use Rattle.slang_reading.specs.Kinds.{sees, span}
use Rattle.slang_names.specs.declared.places.Place.{Place}
use Rattle.slang_grammar.specs.Types.{typed}
use Rattle.slang_grammar.specs.Descent.{Limits, expect, name, identifier, if_short, bracketed}
use Rattle.slang_grammar.specs.TypesDescent.{Type_, Arguments, WordUse, IsBuiltin, IsResource, IsThis, IsOther, use_of, arguments, project, types}
use Rattle.slang_grammar.specs.ExpressionsDescent.{freed}

abbrev pub Seen : Type 0
Seen = Unit {0}

module _ (limits : Limits) where
  -- the name that is declared
  unfoldable pub name_ahead : Parser Seen
  name_ahead = name (freed limits) >>= (λ id. pure tt)

  -- behind an opening bracket
  unfoldable pub length_ahead : Parser Seen
  length_ahead = do
    bracketed (freed limits)
    expect m.CloseBracket
    name_ahead

  abbrev pub array_ahead : Bool → Choice Seen
  array_ahead true = Take length_ahead
  array_ahead false = Leave name_ahead

  -- behind the name of a type, with what is projected from it
  unfoldable pub rest_ahead : Type_ → Parser Seen
  rest_ahead x = turns (sees m.Dot) (project (freed limits) limits.turns) limits.turns x >>= (λ y. next (λ t. array_ahead (sees m.OpenBracket t)))

  abbrev pub given_ahead : Identifier → Arguments × Place → Bool → Choice Seen
  given_ahead id a true = Leave (pure tt)
  given_ahead id a false = Leave (rest_ahead (typed (span id.place a.1) (n.Named id a.0.0), a.0.1 + 1))

  abbrev pub named_ahead_by : Identifier → Bool → Choice Seen
  named_ahead_by id true = Leave (arguments (freed limits) true limits.turns (types (freed limits) limits.turns) >>= (λ a. next (λ t. given_ahead id a (sees m.OpenBracket t))))
  named_ahead_by id false = Leave (rest_ahead (typed id.place (n.Named id []), 1))

  -- behind a name
  unfoldable pub named_ahead : Identifier → Parser Seen
  named_ahead id = next (λ t. named_ahead_by id (sees m.Less t))

  abbrev pub builtin_ahead_by : Bool → Choice Seen
  builtin_ahead_by true = Refuse
  builtin_ahead_by false = Leave (pure tt)

  -- behind a word that makes values too
  unfoldable pub builtin_ahead : Parser Seen
  builtin_ahead = next (λ t. builtin_ahead_by (sees m.OpenParen t))

  abbrev pub word_ahead : Lexed → WordUse → Choice Seen
  word_ahead t (IsBuiltin b) = Take builtin_ahead
  word_ahead t (IsResource r) = Take (pure tt)
  word_ahead t IsThis = Take (rest_ahead (typed t.place n.ThisType, 1))
  word_ahead t IsOther = Refuse

  abbrev pub local_ahead_by : Lexed → Kind → Choice Seen
  local_ahead_by t k.Name = if_short (freed limits) t (Take (named_ahead (identifier t)))
  local_ahead_by t (k.Word word) = word_ahead t (use_of word)
  local_ahead_by t _ = Refuse

  abbrev pub local_ahead_at : Option Lexed → Choice Seen
  local_ahead_at (Some t) = local_ahead_by t t.kind
  local_ahead_at None = Refuse

  -- what begins a declaration of locals without `const`
  unfoldable pub local_ahead : Parser Seen
  local_ahead = next local_ahead_at
