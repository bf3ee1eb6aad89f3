-- What tokens begin a statement, and what stands behind the place of a change.
use Rattle.slang_tree.specs.declared.expressions.BinaryOperator.TheVariants as o
use Rattle.slang_tree.specs.declared.statements.Step.TheVariants as step
use Rattle.slang_tokens.specs.declared.tokens.Kind.{Kind}
use Rattle.slang_tokens.specs.declared.tokens.Kind.TheVariants as k
use Rattle.slang_tokens.specs.declared.tokens.Mark.{Mark}
use Rattle.slang_tokens.specs.declared.tokens.Mark.TheVariants as m
use Rattle.slang_tokens.specs.declared.tokens.Word.{Word}
use Rattle.slang_tokens.specs.declared.tokens.Word.TheVariants as w
use Rattle.statement_grammar.specs.declared.tables.ChangeUse.{ChangeUse}
use Rattle.statement_grammar.specs.declared.tables.ChangeUse.TheVariants as c
use Rattle.statement_grammar.specs.declared.tables.StatementUse.{StatementUse}
use Rattle.statement_grammar.specs.declared.tables.StatementUse.TheVariants as u

-- what a mark does behind the place of a change; `>>=` is three marks
abbrev pub change_use : Mark → ChangeUse
change_use m.Equal = c.Assign
change_use m.PlusEqual = c.Update o.Add
change_use m.MinusEqual = c.Update o.Subtract
change_use m.StarEqual = c.Update o.Multiply
change_use m.SlashEqual = c.Update o.Divide
change_use m.PercentEqual = c.Update o.Remainder
change_use m.AndEqual = c.Update o.BitAnd
change_use m.OrEqual = c.Update o.BitOr
change_use m.CaretEqual = c.Update o.BitXor
change_use m.ShiftLeftEqual = c.Update o.ShiftLeft
change_use m.Greater = c.Shift
change_use m.PlusPlus = c.Step step.Increment
change_use m.MinusMinus = c.Step step.Decrement
change_use _ = c.End

abbrev pub mark_use : Mark → StatementUse
mark_use m.OpenBrace = u.Block
mark_use m.Semicolon = u.Empty
mark_use m.OpenBracket = u.Attributes
mark_use m.OpenParen = u.Simple
mark_use m.PlusPlus = u.Simple
mark_use m.MinusMinus = u.Simple
mark_use _ = u.Nothing

abbrev pub word_use : Word → StatementUse
word_use w.If = u.If
word_use w.For = u.For
word_use w.While = u.While
word_use w.Return = u.Return
word_use w.Break = u.Break
word_use w.Continue = u.Continue
word_use w.Const = u.Simple
word_use w.True = u.Simple
word_use w.False = u.Simple
word_use w.ThisValue = u.Simple
word_use w.ThisType = u.Simple
word_use w.Void = u.Simple
word_use w.Bool = u.Simple
word_use w.Int = u.Simple
word_use w.Int2 = u.Simple
word_use w.Int3 = u.Simple
word_use w.Int4 = u.Simple
word_use w.Uint = u.Simple
word_use w.Uint2 = u.Simple
word_use w.Uint3 = u.Simple
word_use w.Uint4 = u.Simple
word_use w.StructuredBuffer = u.Simple
word_use w.RwStructuredBuffer = u.Simple
word_use w.ConstantBuffer = u.Simple
word_use w.ParameterBlock = u.Simple
word_use _ = u.Nothing

-- what a token begins where a statement stands
abbrev pub statement_use : Kind → StatementUse
statement_use k.Name = u.Simple
statement_use (k.Number v) = u.Simple
statement_use k.String = u.Nothing
statement_use (k.Word word) = word_use word
statement_use (k.Mark mark) = mark_use mark
