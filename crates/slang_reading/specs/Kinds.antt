-- What a token is, as tests.
use Rattle.std.specs.Prelude.{ℕ, Bool, false, ◌==◌, Option, Some, None}
use Rattle.slang_names.specs.declared.places.Place.{Place}
use Rattle.slang_tokens.specs.declared.tokens.Kind.{Kind}
use Rattle.slang_tokens.specs.declared.tokens.Kind.TheVariants as k
use Rattle.slang_tokens.specs.declared.tokens.Mark.{Mark}
use Rattle.slang_tokens.specs.declared.tokens.Mark.TheVariants as m
use Rattle.slang_tokens.specs.declared.tokens.Word.{Word}
use Rattle.slang_tokens.specs.declared.tokens.Word.TheVariants as w
use Rattle.slang_reading.specs.Lexed.{Lexed}

-- a number for each mark, by which marks are told apart
abbrev pub mark_code : Mark → ℕ
mark_code m.OpenBrace = 0
mark_code m.CloseBrace = 1
mark_code m.OpenParen = 2
mark_code m.CloseParen = 3
mark_code m.OpenBracket = 4
mark_code m.CloseBracket = 5
mark_code m.Less = 6
mark_code m.Equal = 7
mark_code m.Semicolon = 8
mark_code m.Comma = 9
mark_code m.Colon = 10
mark_code m.DoubleColon = 11
mark_code m.Dot = 12
mark_code m.Question = 13
mark_code m.Plus = 14
mark_code m.Minus = 15
mark_code m.Star = 16
mark_code m.Slash = 17
mark_code m.Percent = 18
mark_code m.And = 19
mark_code m.Or = 20
mark_code m.Caret = 21
mark_code m.Not = 22
mark_code m.Tilde = 23
mark_code m.AndAnd = 24
mark_code m.OrOr = 25
mark_code m.EqualEqual = 26
mark_code m.NotEqual = 27
mark_code m.LessEqual = 28
mark_code m.ShiftLeft = 29
mark_code m.PlusPlus = 30
mark_code m.MinusMinus = 31
mark_code m.PlusEqual = 32
mark_code m.MinusEqual = 33
mark_code m.StarEqual = 34
mark_code m.SlashEqual = 35
mark_code m.PercentEqual = 36
mark_code m.AndEqual = 37
mark_code m.OrEqual = 38
mark_code m.CaretEqual = 39
mark_code m.ShiftLeftEqual = 40
mark_code m.Greater = 41

-- a number for each word
abbrev pub word_code : Word → ℕ
word_code w.AssociatedType = 0
word_code w.Bool = 1
word_code w.Break = 2
word_code w.Const = 3
word_code w.Continue = 4
word_code w.Else = 5
word_code w.Extension = 6
word_code w.False = 7
word_code w.For = 8
word_code w.If = 9
word_code w.Import = 10
word_code w.In = 11
word_code w.InOut = 12
word_code w.Int = 13
word_code w.Int2 = 14
word_code w.Int3 = 15
word_code w.Int4 = 16
word_code w.Interface = 17
word_code w.Internal = 18
word_code w.Let = 19
word_code w.Module = 20
word_code w.Out = 21
word_code w.Private = 22
word_code w.Public = 23
word_code w.Return = 24
word_code w.Static = 25
word_code w.Struct = 26
word_code w.ThisType = 27
word_code w.ThisValue = 28
word_code w.True = 29
word_code w.TypeAlias = 30
word_code w.TypeDef = 31
word_code w.Uint = 32
word_code w.Uint2 = 33
word_code w.Uint3 = 34
word_code w.Uint4 = 35
word_code w.Void = 36
word_code w.Where = 37
word_code w.While = 38
word_code w.StructuredBuffer = 39
word_code w.RwStructuredBuffer = 40
word_code w.ConstantBuffer = 41
word_code w.ParameterBlock = 42

abbrev pub is_mark : Mark → Kind → Bool
is_mark m (k.Mark n) = mark_code m == mark_code n
is_mark m _ = false

abbrev pub is_word : Word → Kind → Bool
is_word w (k.Word n) = word_code w == word_code n
is_word w _ = false

-- the next token is this mark
abbrev pub sees : Mark → Option Lexed → Bool
sees m (Some t) = is_mark m t.kind
sees m None = false

-- the next token is this word
abbrev pub sees_word : Word → Option Lexed → Bool
sees_word w (Some t) = is_word w t.kind
sees_word w None = false

-- from the first byte of one place to past the last of the other
abbrev pub span : Place → Place → Place
span a b = record { start = a.start; end = b.end }
