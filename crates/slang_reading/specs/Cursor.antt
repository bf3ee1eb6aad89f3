-- What the code of the descent answers.
use Rattle.std.specs.Prelude.{◌≡◌, ℕ, ◌+◌, max, List, Result, Ok, Err}
use Rattle.slang_reading.specs.declared.faults.Fault.{Fault}
use Rattle.slang_reading.specs.declared.faults.Fault.TheVariants as f
use Rattle.slang_reading.specs.Lexed.{Lexed}
use Rattle.slang_reading.specs.Reading.{Outcome, Done, Stop, Past, Parser}

-- the tokens, the index of the next one, and how many have been looked at
pub record Cursor : Type 0 where
  pub tokens : List Lexed
  pub at : ℕ
  pub seen : ℕ

-- the next token is looked at
abbrev pub looked : Cursor → Cursor
looked c = record c { seen = max c.seen (c.at + 1) }

-- the next token is taken
abbrev pub taken : Cursor → Cursor
taken c = record c { at = c.at + 1 }

abbrev pub moved : Cursor → ℕ → Cursor
moved c at = record c { at = at }

abbrev pub run : {A : Type 0} → Parser A → Cursor → Outcome A
run p c = p c.tokens c.at c.seen

-- why it fails; of want of memory nothing is said
abbrev pub Fails : {A : Type 0} → Fault → Outcome A → Cursor → Type 0
Fails (f.Memory e) o new = Unit {0}
Fails f.Stopped o new = o ≡ Stop new.seen
Fails (f.Past code place) o new = o ≡ Past code place new.seen

-- What a function of the descent answers: what the parser does, unless memory runs out.
abbrev pub Runs : {A : Type 0} → Parser A → Cursor → Result A Fault → Cursor → Type 0
Runs p old (Ok a) new = (run p old ≡ Done a new.at new.seen) × (new.tokens ≡ old.tokens)
Runs p old (Err e) new = Fails e (run p old) new × (new.tokens ≡ old.tokens)
