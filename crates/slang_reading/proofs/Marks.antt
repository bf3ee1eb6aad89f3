-- Marks and words are told apart by their numbers.
use Rattle.std.proofs.Common.{true, ◌≡◌, ℕ, Option, Some, None, refl, sym, ◌∙◌, ap, eqb-true, eq-eqb, ◌==◌, if◌then◌else◌}
use Rattle.slang_tokens.specs.declared.tokens.Kind.{Kind}
use Rattle.slang_tokens.specs.declared.tokens.Kind.TheVariants as k
use Rattle.slang_tokens.specs.declared.tokens.Mark.{Mark}
use Rattle.slang_tokens.specs.declared.tokens.Mark.TheVariants as m
use Rattle.slang_tokens.specs.declared.tokens.Word.{Word}
use Rattle.slang_tokens.specs.declared.tokens.Word.TheVariants as w
use Rattle.slang_reading.specs.Lexed.{Lexed}
use Rattle.slang_reading.specs.Kinds.{mark_code, word_code, is_mark, is_word, sees}

mark_of : ℕ → Mark
mark_of n =
    if n == 0 then m.OpenBrace
    else (if n == 1 then m.CloseBrace
    else (if n == 2 then m.OpenParen
    else (if n == 3 then m.CloseParen
    else (if n == 4 then m.OpenBracket
    else (if n == 5 then m.CloseBracket
    else (if n == 6 then m.Less
    else (if n == 7 then m.Equal
    else (if n == 8 then m.Semicolon
    else (if n == 9 then m.Comma
    else (if n == 10 then m.Colon
    else (if n == 11 then m.DoubleColon
    else (if n == 12 then m.Dot
    else (if n == 13 then m.Question
    else (if n == 14 then m.Plus
    else (if n == 15 then m.Minus
    else (if n == 16 then m.Star
    else (if n == 17 then m.Slash
    else (if n == 18 then m.Percent
    else (if n == 19 then m.And
    else (if n == 20 then m.Or
    else (if n == 21 then m.Caret
    else (if n == 22 then m.Not
    else (if n == 23 then m.Tilde
    else (if n == 24 then m.AndAnd
    else (if n == 25 then m.OrOr
    else (if n == 26 then m.EqualEqual
    else (if n == 27 then m.NotEqual
    else (if n == 28 then m.LessEqual
    else (if n == 29 then m.ShiftLeft
    else (if n == 30 then m.PlusPlus
    else (if n == 31 then m.MinusMinus
    else (if n == 32 then m.PlusEqual
    else (if n == 33 then m.MinusEqual
    else (if n == 34 then m.StarEqual
    else (if n == 35 then m.SlashEqual
    else (if n == 36 then m.PercentEqual
    else (if n == 37 then m.AndEqual
    else (if n == 38 then m.OrEqual
    else (if n == 39 then m.CaretEqual
    else (if n == 40 then m.ShiftLeftEqual
    else m.Greater))))))))))))))))))))))))))))))))))))))))

mark_of-code : (a : Mark) → mark_of (mark_code a) ≡ a
unfolding mark_of
mark_of-code m.OpenBrace = refl
mark_of-code m.CloseBrace = refl
mark_of-code m.OpenParen = refl
mark_of-code m.CloseParen = refl
mark_of-code m.OpenBracket = refl
mark_of-code m.CloseBracket = refl
mark_of-code m.Less = refl
mark_of-code m.Equal = refl
mark_of-code m.Semicolon = refl
mark_of-code m.Comma = refl
mark_of-code m.Colon = refl
mark_of-code m.DoubleColon = refl
mark_of-code m.Dot = refl
mark_of-code m.Question = refl
mark_of-code m.Plus = refl
mark_of-code m.Minus = refl
mark_of-code m.Star = refl
mark_of-code m.Slash = refl
mark_of-code m.Percent = refl
mark_of-code m.And = refl
mark_of-code m.Or = refl
mark_of-code m.Caret = refl
mark_of-code m.Not = refl
mark_of-code m.Tilde = refl
mark_of-code m.AndAnd = refl
mark_of-code m.OrOr = refl
mark_of-code m.EqualEqual = refl
mark_of-code m.NotEqual = refl
mark_of-code m.LessEqual = refl
mark_of-code m.ShiftLeft = refl
mark_of-code m.PlusPlus = refl
mark_of-code m.MinusMinus = refl
mark_of-code m.PlusEqual = refl
mark_of-code m.MinusEqual = refl
mark_of-code m.StarEqual = refl
mark_of-code m.SlashEqual = refl
mark_of-code m.PercentEqual = refl
mark_of-code m.AndEqual = refl
mark_of-code m.OrEqual = refl
mark_of-code m.CaretEqual = refl
mark_of-code m.ShiftLeftEqual = refl
mark_of-code m.Greater = refl

word_of : ℕ → Word
word_of n =
    if n == 0 then w.AssociatedType
    else (if n == 1 then w.Bool
    else (if n == 2 then w.Break
    else (if n == 3 then w.Const
    else (if n == 4 then w.Continue
    else (if n == 5 then w.Else
    else (if n == 6 then w.Extension
    else (if n == 7 then w.False
    else (if n == 8 then w.For
    else (if n == 9 then w.If
    else (if n == 10 then w.Import
    else (if n == 11 then w.In
    else (if n == 12 then w.InOut
    else (if n == 13 then w.Int
    else (if n == 14 then w.Int2
    else (if n == 15 then w.Int3
    else (if n == 16 then w.Int4
    else (if n == 17 then w.Interface
    else (if n == 18 then w.Internal
    else (if n == 19 then w.Let
    else (if n == 20 then w.Module
    else (if n == 21 then w.Out
    else (if n == 22 then w.Private
    else (if n == 23 then w.Public
    else (if n == 24 then w.Return
    else (if n == 25 then w.Static
    else (if n == 26 then w.Struct
    else (if n == 27 then w.ThisType
    else (if n == 28 then w.ThisValue
    else (if n == 29 then w.True
    else (if n == 30 then w.TypeAlias
    else (if n == 31 then w.TypeDef
    else (if n == 32 then w.Uint
    else (if n == 33 then w.Uint2
    else (if n == 34 then w.Uint3
    else (if n == 35 then w.Uint4
    else (if n == 36 then w.Void
    else (if n == 37 then w.Where
    else (if n == 38 then w.While
    else (if n == 39 then w.StructuredBuffer
    else (if n == 40 then w.RwStructuredBuffer
    else (if n == 41 then w.ConstantBuffer
    else w.ParameterBlock)))))))))))))))))))))))))))))))))))))))))

word_of-code : (a : Word) → word_of (word_code a) ≡ a
unfolding word_of
word_of-code w.AssociatedType = refl
word_of-code w.Bool = refl
word_of-code w.Break = refl
word_of-code w.Const = refl
word_of-code w.Continue = refl
word_of-code w.Else = refl
word_of-code w.Extension = refl
word_of-code w.False = refl
word_of-code w.For = refl
word_of-code w.If = refl
word_of-code w.Import = refl
word_of-code w.In = refl
word_of-code w.InOut = refl
word_of-code w.Int = refl
word_of-code w.Int2 = refl
word_of-code w.Int3 = refl
word_of-code w.Int4 = refl
word_of-code w.Interface = refl
word_of-code w.Internal = refl
word_of-code w.Let = refl
word_of-code w.Module = refl
word_of-code w.Out = refl
word_of-code w.Private = refl
word_of-code w.Public = refl
word_of-code w.Return = refl
word_of-code w.Static = refl
word_of-code w.Struct = refl
word_of-code w.ThisType = refl
word_of-code w.ThisValue = refl
word_of-code w.True = refl
word_of-code w.TypeAlias = refl
word_of-code w.TypeDef = refl
word_of-code w.Uint = refl
word_of-code w.Uint2 = refl
word_of-code w.Uint3 = refl
word_of-code w.Uint4 = refl
word_of-code w.Void = refl
word_of-code w.Where = refl
word_of-code w.While = refl
word_of-code w.StructuredBuffer = refl
word_of-code w.RwStructuredBuffer = refl
word_of-code w.ConstantBuffer = refl
word_of-code w.ParameterBlock = refl

pub same_mark : (a b : Mark) → is_mark a (k.Mark b) ≡ true → a ≡ b
same_mark a b e = sym (mark_of-code a) ∙ (ap mark_of (eqb-true (mark_code a) (mark_code b) e) ∙ mark_of-code b)

pub same_word : (a b : Word) → is_word a (k.Word b) ≡ true → a ≡ b
same_word a b e = sym (word_of-code a) ∙ (ap word_of (eqb-true (word_code a) (word_code b) e) ∙ word_of-code b)

pub mark_is : (a : Mark) (kind : Kind) → is_mark a kind ≡ true → kind ≡ k.Mark a
mark_is a (k.Mark b) e = ap k.Mark (sym (same_mark a b e))
mark_is a k.Name e = cc
mark_is a (k.Word b) e = cc
mark_is a (k.Number n) e = cc
mark_is a k.String e = cc

pub word_is : (a : Word) (kind : Kind) → is_word a kind ≡ true → kind ≡ k.Word a
word_is a (k.Word b) e = ap k.Word (sym (same_word a b e))
word_is a k.Name e = cc
word_is a (k.Mark b) e = cc
word_is a (k.Number n) e = cc
word_is a k.String e = cc

-- a mark is seen where it stands
pub mark_sees : (a : Mark) (t : Lexed) → t.kind ≡ k.Mark a → is_mark a t.kind ≡ true
mark_sees a t e = ap (is_mark a) e ∙ eq-eqb (mark_code a) (mark_code a) refl

pub word_sees : (a : Word) (t : Lexed) → t.kind ≡ k.Word a → is_word a t.kind ≡ true
word_sees a t e = ap (is_word a) e ∙ eq-eqb (word_code a) (word_code a) refl

-- the token that is seen
pub sees_some : (a : Mark) (x : Option Lexed) → sees a x ≡ true → (t : Lexed) × (x ≡ Some t) × (t.kind ≡ k.Mark a)
sees_some a (Some t) e = (t, refl, mark_is a t.kind e)
sees_some a None e = cc
