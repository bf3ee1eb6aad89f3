-- What the tables say of the token that is there.
use Rattle.std.proofs.Common.{◌≡◌, refl}
use Rattle.slang_tokens.specs.declared.tokens.Kind.{Kind}
use Rattle.slang_tokens.specs.declared.tokens.Kind.TheVariants as k
use Rattle.slang_tokens.specs.declared.tokens.Mark.{Mark}
use Rattle.slang_tokens.specs.declared.tokens.Mark.TheVariants as m
use Rattle.slang_tokens.specs.declared.tokens.Word.{Word}
use Rattle.slang_tokens.specs.declared.tokens.Word.TheVariants as w
use Rattle.statement_grammar.specs.declared.tables.ChangeUse.{ChangeUse}
use Rattle.statement_grammar.specs.declared.tables.ChangeUse.TheVariants as c
use Rattle.statement_grammar.specs.declared.tables.StatementUse.{StatementUse}
use Rattle.statement_grammar.specs.declared.tables.StatementUse.TheVariants as u
use Rattle.statement_grammar.specs.Tables.{change_use, mark_use, word_use, statement_use}

-- ---- behind the place of a change

abbrev pub ChangeUseIs : Mark → ChangeUse → Type 0
ChangeUseIs mark c.Assign = mark ≡ m.Equal
ChangeUseIs mark (c.Update op) = change_use mark ≡ c.Update op
ChangeUseIs mark c.Shift = mark ≡ m.Greater
ChangeUseIs mark (c.Step step) = change_use mark ≡ c.Step step
ChangeUseIs mark c.End = Unit {0}

pub change_use_is : (mark : Mark) → ChangeUseIs mark (change_use mark)
change_use_is m.OpenBrace = tt
change_use_is m.CloseBrace = tt
change_use_is m.OpenParen = tt
change_use_is m.CloseParen = tt
change_use_is m.OpenBracket = tt
change_use_is m.CloseBracket = tt
change_use_is m.Less = tt
change_use_is m.Equal = refl
change_use_is m.Semicolon = tt
change_use_is m.Comma = tt
change_use_is m.Colon = tt
change_use_is m.DoubleColon = tt
change_use_is m.Dot = tt
change_use_is m.Question = tt
change_use_is m.Plus = tt
change_use_is m.Minus = tt
change_use_is m.Star = tt
change_use_is m.Slash = tt
change_use_is m.Percent = tt
change_use_is m.And = tt
change_use_is m.Or = tt
change_use_is m.Caret = tt
change_use_is m.Not = tt
change_use_is m.Tilde = tt
change_use_is m.AndAnd = tt
change_use_is m.OrOr = tt
change_use_is m.EqualEqual = tt
change_use_is m.NotEqual = tt
change_use_is m.LessEqual = tt
change_use_is m.ShiftLeft = tt
change_use_is m.PlusPlus = refl
change_use_is m.MinusMinus = refl
change_use_is m.PlusEqual = refl
change_use_is m.MinusEqual = refl
change_use_is m.StarEqual = refl
change_use_is m.SlashEqual = refl
change_use_is m.PercentEqual = refl
change_use_is m.AndEqual = refl
change_use_is m.OrEqual = refl
change_use_is m.CaretEqual = refl
change_use_is m.ShiftLeftEqual = refl
change_use_is m.Greater = refl

-- ---- where a statement stands

abbrev pub StatementUseIs : Kind → StatementUse → Type 0
StatementUseIs kind u.Block = kind ≡ k.Mark m.OpenBrace
StatementUseIs kind u.Empty = kind ≡ k.Mark m.Semicolon
StatementUseIs kind u.Attributes = kind ≡ k.Mark m.OpenBracket
StatementUseIs kind u.Simple = Unit {0}
StatementUseIs kind u.If = kind ≡ k.Word w.If
StatementUseIs kind u.For = kind ≡ k.Word w.For
StatementUseIs kind u.While = kind ≡ k.Word w.While
StatementUseIs kind u.Return = kind ≡ k.Word w.Return
StatementUseIs kind u.Break = kind ≡ k.Word w.Break
StatementUseIs kind u.Continue = kind ≡ k.Word w.Continue
StatementUseIs kind u.Nothing = Unit {0}

mark_use_is : (mark : Mark) → StatementUseIs (k.Mark mark) (mark_use mark)
mark_use_is m.OpenBrace = refl
mark_use_is m.CloseBrace = tt
mark_use_is m.OpenParen = tt
mark_use_is m.CloseParen = tt
mark_use_is m.OpenBracket = refl
mark_use_is m.CloseBracket = tt
mark_use_is m.Less = tt
mark_use_is m.Equal = tt
mark_use_is m.Semicolon = refl
mark_use_is m.Comma = tt
mark_use_is m.Colon = tt
mark_use_is m.DoubleColon = tt
mark_use_is m.Dot = tt
mark_use_is m.Question = tt
mark_use_is m.Plus = tt
mark_use_is m.Minus = tt
mark_use_is m.Star = tt
mark_use_is m.Slash = tt
mark_use_is m.Percent = tt
mark_use_is m.And = tt
mark_use_is m.Or = tt
mark_use_is m.Caret = tt
mark_use_is m.Not = tt
mark_use_is m.Tilde = tt
mark_use_is m.AndAnd = tt
mark_use_is m.OrOr = tt
mark_use_is m.EqualEqual = tt
mark_use_is m.NotEqual = tt
mark_use_is m.LessEqual = tt
mark_use_is m.ShiftLeft = tt
mark_use_is m.PlusPlus = tt
mark_use_is m.MinusMinus = tt
mark_use_is m.PlusEqual = tt
mark_use_is m.MinusEqual = tt
mark_use_is m.StarEqual = tt
mark_use_is m.SlashEqual = tt
mark_use_is m.PercentEqual = tt
mark_use_is m.AndEqual = tt
mark_use_is m.OrEqual = tt
mark_use_is m.CaretEqual = tt
mark_use_is m.ShiftLeftEqual = tt
mark_use_is m.Greater = tt

word_use_is : (word : Word) → StatementUseIs (k.Word word) (word_use word)
word_use_is w.AssociatedType = tt
word_use_is w.Bool = tt
word_use_is w.Break = refl
word_use_is w.Const = tt
word_use_is w.Continue = refl
word_use_is w.Else = tt
word_use_is w.Extension = tt
word_use_is w.False = tt
word_use_is w.For = refl
word_use_is w.If = refl
word_use_is w.Import = tt
word_use_is w.In = tt
word_use_is w.InOut = tt
word_use_is w.Int = tt
word_use_is w.Int2 = tt
word_use_is w.Int3 = tt
word_use_is w.Int4 = tt
word_use_is w.Interface = tt
word_use_is w.Internal = tt
word_use_is w.Let = tt
word_use_is w.Module = tt
word_use_is w.Out = tt
word_use_is w.Private = tt
word_use_is w.Public = tt
word_use_is w.Return = refl
word_use_is w.Static = tt
word_use_is w.Struct = tt
word_use_is w.ThisType = tt
word_use_is w.ThisValue = tt
word_use_is w.True = tt
word_use_is w.TypeAlias = tt
word_use_is w.TypeDef = tt
word_use_is w.Uint = tt
word_use_is w.Uint2 = tt
word_use_is w.Uint3 = tt
word_use_is w.Uint4 = tt
word_use_is w.Void = tt
word_use_is w.Where = tt
word_use_is w.While = refl
word_use_is w.StructuredBuffer = tt
word_use_is w.RwStructuredBuffer = tt
word_use_is w.ConstantBuffer = tt
word_use_is w.ParameterBlock = tt

pub statement_use_is : (kind : Kind) → StatementUseIs kind (statement_use kind)
statement_use_is k.Name = tt
statement_use_is (k.Number v) = tt
statement_use_is k.String = tt
statement_use_is (k.Word word) = word_use_is word
statement_use_is (k.Mark mark) = mark_use_is mark
