-- Generic arguments are read ahead without a tree and without recursion: each token takes what is open and what is awaited to
-- what is open and awaited next. No limit is passed.
use Rattle.std.specs.Prelude.{true, ℕ, ◌+◌, max, if◌then◌else◌, List, [], ◌∷◌, Option, Some, None, drop}
use Rattle.slang_tokens.specs.declared.tokens.Kind.{Kind}
use Rattle.slang_tokens.specs.declared.tokens.Kind.TheVariants as k
use Rattle.slang_tokens.specs.declared.tokens.Mark.TheVariants as m
use Rattle.slang_reading.specs.Lexed.{Lexed}
use Rattle.slang_reading.specs.Reading.{Outcome, Done, Stop, Past, Parser, first}
use Rattle.slang_reading.specs.Kinds.{is_mark}
use Rattle.type_reading.specs.declared.steps.Open.{Open}
use Rattle.type_reading.specs.declared.steps.Open.TheVariants.{Many, One}
use Rattle.type_reading.specs.declared.steps.Awaited.{Awaited}
use Rattle.type_reading.specs.declared.steps.Awaited.TheVariants.{Begins, Item, Inner, Named, Typed, Sized, Opens, Dotted, Bracketed, Closing, Ends, More, Close}
use Rattle.type_reading.specs.declared.steps.Step.{Step}
use Rattle.type_reading.specs.declared.steps.Step.TheVariants.{Keep, Push, Pop, Refused}
use Rattle.slang_grammar.specs.Descent.{Limits}
use Rattle.slang_grammar.specs.TypesDescent.{WordUse, IsBuiltin, IsResource, IsThis, IsOther, use_of, arguments, types}

-- the brackets that are open, the innermost first, and what is awaited; or the wrong token; or the last bracket
pub data Move : Type 0 where
  Go : List Open → Awaited → Move
  Wrong : Move
  Finish : Move

-- ---- what a token does, by the innermost bracket

abbrev pub close : Kind → Step
close kind = if is_mark m.Greater kind then Pop else Refused

abbrev pub ends : Option Open → Kind → Step
ends (Some Many) kind = if is_mark m.Comma kind then Keep Item else close kind
ends (Some One) kind = close kind
ends None kind = Refused

abbrev pub sized : Option Open → Kind → Step
sized top kind = if is_mark m.OpenBracket kind then Keep Bracketed else ends top kind

abbrev pub typed : Option Open → Kind → Step
typed top kind = if is_mark m.Dot kind then Keep Dotted else sized top kind

abbrev pub named : Option Open → Kind → Step
named top kind = if is_mark m.Less kind then Push Many Item else typed top kind

abbrev pub word_step : WordUse → Step
word_step (IsBuiltin b) = Keep Typed
word_step (IsResource r) = Keep Opens
word_step IsThis = Keep Typed
word_step IsOther = Refused

abbrev pub inner : Kind → Step
inner k.Name = Keep Named
inner (k.Word word) = word_step (use_of word)
inner _ = Refused

abbrev pub item : Kind → Step
item (k.Number v) = Keep Ends
item kind = inner kind

abbrev pub dotted : Kind → Step
dotted k.Name = Keep Typed
dotted _ = Refused

abbrev pub bracketed : Kind → Step
bracketed (k.Number v) = Keep Closing
bracketed k.Name = Keep Closing
bracketed _ = Refused

abbrev pub step : Option Open → Awaited → Kind → Step
step top Begins kind = if is_mark m.Less kind then Push Many Item else Refused
step top Item kind = item kind
step top Inner kind = inner kind
step top Named kind = named top kind
step top Typed kind = typed top kind
step top Sized kind = sized top kind
step top Opens kind = if is_mark m.Less kind then Push One Inner else Refused
step top Dotted kind = dotted kind
step top Bracketed kind = bracketed kind
step top Closing kind = if is_mark m.CloseBracket kind then Keep Ends else Refused
step top Ends kind = ends top kind
step top More kind = if is_mark m.Comma kind then Keep Item else Refused
step top Close kind = close kind

-- ---- and to all that are open

abbrev pub popped : List Open → Move
popped [] = Finish
popped (f ∷ s) = Go (f ∷ s) Typed

abbrev pub applied : Step → List Open → Move
applied (Keep w) s = Go s w
applied (Push f w) s = Go (f ∷ s) w
applied Pop [] = Wrong
applied Pop (f ∷ s) = popped s
applied Refused s = Wrong

abbrev pub move : List Open → Awaited → Kind → Move
move s w kind = applied (step (first s) w kind) s

-- what comes of a token that is taken
abbrev pub after : Move → (List Open → Awaited → Outcome (Unit {0})) → ℕ → ℕ → Outcome (Unit {0})
after (Go s w) go at seen = go s w
after Wrong go at seen = Stop seen
after Finish go at seen = Done tt at seen

-- the rest of the tokens, from that index on
abbrev pub scan : List Lexed → List Open → Awaited → ℕ → ℕ → Outcome (Unit {0})
scan [] s w at seen = Stop (max seen (at + 1))
scan (t ∷ ts) s w at seen = after (move s w t.kind) (λ s w. scan ts s w (at + 1) (max seen (at + 1))) (at + 1) (max seen (at + 1))

-- an outcome without its answer
abbrev pub erased : {A : Type 0} → Outcome A → Outcome (Unit {0})
erased (Done a at seen) = Done tt at seen
erased (Stop seen) = Stop seen
erased (Past code place seen) = Past code place seen

-- generic arguments with their brackets, from here on
abbrev pub scanned : Parser (Unit {0})
scanned ts at seen = scan (drop at ts) [] Begins at seen

-- what the parser of generic arguments does that has as many nodes as turns, but for its answer
abbrev pub arguments_taken : Limits → Parser (Unit {0})
arguments_taken limits ts at seen = erased (arguments limits true limits.turns (types limits limits.turns) ts at seen)
