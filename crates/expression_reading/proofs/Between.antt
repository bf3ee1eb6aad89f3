-- What a mark is between two operands, by whether it is `>` and by its operator.
use Rattle.std.proofs.Common.{◌≡◌, ℕ, zero, suc, Option, Some, None, Bool, true, false, Result, IfSome, refl, arith}
use Rattle.slang_tree.specs.declared.expressions.BinaryOperator.{BinaryOperator}
use Rattle.slang_reading.specs.declared.faults.Fault.{Fault}
use Rattle.slang_reading.specs.Cursor.{Cursor}
use Rattle.slang_tokens.specs.declared.tokens.Kind.TheVariants as k
use Rattle.slang_tokens.specs.declared.tokens.Mark.{Mark}
use Rattle.slang_tokens.specs.declared.tokens.Mark.TheVariants as m
use Rattle.slang_reading.specs.Lexed.{Lexed}
use Rattle.slang_reading.specs.Reading.{Parser, chosen, attempt}
use Rattle.slang_reading.specs.Kinds.{is_mark}
use Rattle.slang_grammar.specs.Tables.{binary_of}
use Rattle.slang_grammar.specs.Descent.{Limits}
use Rattle.slang_grammar.specs.ExpressionsDescent.{Value, operator_by, shift_ahead, shift_by}
use Rattle.expression_reading.specs.Leading.{Leads, by_mark}

module _ (limits : Limits) (d : ℕ) (inner : ℕ → Parser Value) (l : ℕ) (x : Value) (t : Lexed) where
  pub operator_by_mark : (mark : Mark) → operator_by limits d inner l x t (k.Mark mark) ≡ by_mark limits d inner l x t (is_mark m.Greater (k.Mark mark)) (binary_of mark)
  operator_by_mark m.OpenBrace = refl
  operator_by_mark m.CloseBrace = refl
  operator_by_mark m.OpenParen = refl
  operator_by_mark m.CloseParen = refl
  operator_by_mark m.OpenBracket = refl
  operator_by_mark m.CloseBracket = refl
  operator_by_mark m.Less = refl
  operator_by_mark m.Equal = refl
  operator_by_mark m.Semicolon = refl
  operator_by_mark m.Comma = refl
  operator_by_mark m.Colon = refl
  operator_by_mark m.DoubleColon = refl
  operator_by_mark m.Dot = refl
  operator_by_mark m.Question = refl
  operator_by_mark m.Plus = refl
  operator_by_mark m.Minus = refl
  operator_by_mark m.Star = refl
  operator_by_mark m.Slash = refl
  operator_by_mark m.Percent = refl
  operator_by_mark m.And = refl
  operator_by_mark m.Or = refl
  operator_by_mark m.Caret = refl
  operator_by_mark m.Not = refl
  operator_by_mark m.Tilde = refl
  operator_by_mark m.AndAnd = refl
  operator_by_mark m.OrOr = refl
  operator_by_mark m.EqualEqual = refl
  operator_by_mark m.NotEqual = refl
  operator_by_mark m.LessEqual = refl
  operator_by_mark m.ShiftLeft = refl
  operator_by_mark m.PlusPlus = refl
  operator_by_mark m.MinusMinus = refl
  operator_by_mark m.PlusEqual = refl
  operator_by_mark m.MinusEqual = refl
  operator_by_mark m.StarEqual = refl
  operator_by_mark m.SlashEqual = refl
  operator_by_mark m.PercentEqual = refl
  operator_by_mark m.AndEqual = refl
  operator_by_mark m.OrEqual = refl
  operator_by_mark m.CaretEqual = refl
  operator_by_mark m.ShiftLeftEqual = refl
  operator_by_mark m.Greater = refl

-- at its level, `>` may begin `>>`
pub shift_marked : {B : Type 0} (limits : Limits) (d : ℕ) (inner : ℕ → Parser Value) (l : ℕ) (x : Value) (q : B → Parser (Option Value)) (b : Bool) (op : Option BinaryOperator) (o : Option Lexed)
    (old new : Cursor) (r : Result B Fault) → true ≡ b → l ≡ 2 → Leads (attempt shift_ahead (shift_by limits d inner l x)) q old r new →
    IfSome o (λ t. Leads (chosen (Some t) (by_mark limits d inner l x t b op)) q old r new)
shift_marked limits d inner l x q b op None old new r e k h = tt
shift_marked limits d inner l x q false op (Some t) old new r e k h = absurd cc
shift_marked limits d inner zero x q true op (Some t) old new r e k h = absurd (omega arith)
shift_marked limits d inner (suc zero) x q true op (Some t) old new r e k h = absurd (omega arith)
shift_marked limits d inner (suc (suc zero)) x q true op (Some t) old new r e k h = h
shift_marked limits d inner (suc (suc (suc l))) x q true op (Some t) old new r e k h = absurd (omega arith)
