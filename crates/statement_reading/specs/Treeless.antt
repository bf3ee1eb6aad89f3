-- What is looked at ahead of a declaration of locals, without the trees that are not kept.
use Rattle.std.specs.Prelude.{Bool, true, false, Option, Some, None}
use Rattle.slang_tokens.specs.declared.tokens.Kind.{Kind}
use Rattle.slang_tokens.specs.declared.tokens.Kind.TheVariants as k
use Rattle.slang_tokens.specs.declared.tokens.Mark.TheVariants as m
use Rattle.slang_reading.specs.Lexed.{Lexed}
use Rattle.slang_reading.specs.Reading.{Parser, Choice, Leave, Take, Refuse, ◌>>=◌, pure, next, turns}
use Rattle.slang_reading.specs.Kinds.{sees}
use Rattle.slang_grammar.specs.Descent.{Limits}
use Rattle.slang_grammar.specs.TypesDescent.{WordUse, IsBuiltin, IsResource, IsThis, IsOther, use_of}
use Rattle.slang_grammar.specs.ExpressionsDescent.{freed}
use Rattle.type_reading.specs.Scanning.{arguments_taken}
use Rattle.statement_grammar.specs.LocalsAhead.{Seen, name_ahead, array_ahead, builtin_ahead}

module _ (limits : Limits) where
  abbrev pub dotted_by : Bool → Choice Seen
  dotted_by true = Take (name_ahead limits)
  dotted_by false = Refuse

  -- a dot and a name, behind others
  unfoldable pub dotted : Seen → Parser Seen
  dotted u = next (λ t. dotted_by (sees m.Dot t))

  -- behind the name of a type, with what is projected from it
  unfoldable pub rest_taken : Parser Seen
  rest_taken = turns (sees m.Dot) dotted limits.turns tt >>= (λ _. next (λ t. array_ahead limits (sees m.OpenBracket t)))

  abbrev pub given_taken : Bool → Choice Seen
  given_taken true = Leave (pure tt)
  given_taken false = Leave rest_taken

  abbrev pub named_taken_by : Bool → Choice Seen
  named_taken_by true = Leave (arguments_taken (freed limits) >>= (λ _. next (λ t. given_taken (sees m.OpenBracket t))))
  named_taken_by false = Leave rest_taken

  -- behind a name
  unfoldable pub named_taken : Parser Seen
  named_taken = next (λ t. named_taken_by (sees m.Less t))

  abbrev pub word_taken : WordUse → Choice Seen
  word_taken (IsBuiltin b) = Take (builtin_ahead limits)
  word_taken (IsResource r) = Take (pure tt)
  word_taken IsThis = Take rest_taken
  word_taken IsOther = Refuse

  abbrev pub local_taken_by : Kind → Choice Seen
  local_taken_by k.Name = Take named_taken
  local_taken_by (k.Word word) = word_taken (use_of word)
  local_taken_by _ = Refuse

  abbrev pub local_taken_at : Option Lexed → Choice Seen
  local_taken_at (Some t) = local_taken_by t.kind
  local_taken_at None = Refuse

  -- what begins a declaration of locals without `const`
  unfoldable pub local_taken : Parser Seen
  local_taken = next local_taken_at
