-- What the functions answer that read what stands before an inner expression.
use Rattle.std.specs.Prelude.{◌≡◌, ℕ, Bool, true, false, ◌==◌, if◌then◌else◌, Option, Some, None, Result, Ok, Err}
use Rattle.slang_tree.specs.declared.expressions.BinaryOperator.{BinaryOperator}
use Rattle.slang_tree.specs.declared.expressions.BinaryOperator.TheVariants as o
use Rattle.slang_reading.specs.declared.faults.Fault.{Fault}
use Rattle.slang_reading.specs.Cursor.{Cursor, run, Fails}
use Rattle.slang_reading.specs.Lexed.{Lexed}
use Rattle.slang_reading.specs.Reading.{Done, Stop, Parser, Choice, Leave, Take, pure, attempt}
use Rattle.slang_grammar.specs.Descent.{Limits}
use Rattle.slang_grammar.specs.Tables.{level_of}
use Rattle.slang_grammar.specs.ExpressionsDescent.{Value, shift_ahead, over, operand, greater, shift_by, operator_mark}

-- from here the parser goes on as the one that the answer stands for, or it fails
abbrev pub Leads : {A B : Type 0} → Parser A → (B → Parser A) → Cursor → Result B Fault → Cursor → Type 0
Leads p q old (Ok b) new = (run p old ≡ run (q b) new) × (new.tokens ≡ old.tokens)
Leads p q old (Err e) new = Fails e (run p old) new × (new.tokens ≡ old.tokens)

-- what the parser reads here, or none where it stops; the cursor then stands where it stood and has looked as far
abbrev pub Tries : {A : Type 0} → Parser A → Cursor → Option A → Cursor → Type 0
Tries p old (Some a) new = (run p old ≡ Done a new.at new.seen) × (new.tokens ≡ old.tokens)
Tries p old None new = (run p old ≡ Stop new.seen) × (new.at ≡ old.at) × (new.tokens ≡ old.tokens)

-- an answer as one more
abbrev pub one_more : {A : Type 0} → Result A Fault → Result (Option A) Fault
one_more (Ok a) = Ok (Some a)
one_more (Err e) = Err e

-- an answer beside whether it is one more
abbrev pub turned : {A : Type 0} → Result (A × Bool) Fault → Result (Option A) Fault
turned (Ok (a, true)) = Ok (Some a)
turned (Ok (a, false)) = Ok None
turned (Err e) = Err e

-- what follows an operator of that level, if there is one
abbrev pub with_operator : Limits → ℕ → (ℕ → Parser Value) → ℕ → Value → Option BinaryOperator → Parser (Option Value)
with_operator limits d inner l x (Some op) = operand limits d inner l op x
with_operator limits d inner l x None = pure None

-- what to do at a mark between two operands, by whether it is `>` and by its operator
abbrev pub by_mark : Limits → ℕ → (ℕ → Parser Value) → ℕ → Value → Lexed → Bool → Option BinaryOperator → Choice (Option Value)
by_mark limits d inner l x t true op =
    if l == level_of o.Greater then over limits d inner x (Some t) (Take (greater limits d inner l t.place x))
    else (if l == level_of o.ShiftRight then Leave (attempt shift_ahead (shift_by limits d inner l x)) else Leave (pure None))
by_mark limits d inner l x t false op = operator_mark limits d inner l x t op
