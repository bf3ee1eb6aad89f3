-- The tables of the descent, mark by mark and word by word.
use Rattle.std.proofs.Common.{true, false, ◌≡◌, ◌<◌, ℕ, Option, Some, None, refl, arith}
use Rattle.slang_tree.specs.declared.types.Builtin.{Builtin}
use Rattle.slang_tree.specs.declared.expressions.UnaryOperator.{UnaryOperator}
use Rattle.slang_tree.specs.declared.expressions.BinaryOperator.{BinaryOperator}
use Rattle.slang_tree.specs.declared.expressions.BinaryOperator.TheVariants as o
use Rattle.slang_tokens.specs.declared.tokens.Kind.TheVariants as k
use Rattle.slang_tokens.specs.declared.tokens.Mark.{Mark}
use Rattle.slang_tokens.specs.declared.tokens.Mark.TheVariants as m
use Rattle.slang_tokens.specs.declared.tokens.Word.{Word}
use Rattle.slang_tokens.specs.declared.tokens.Word.TheVariants as w
use Rattle.slang_reading.specs.Lexed.{Lexed}
use Rattle.slang_reading.specs.Reading.{Parser, Refuse}
use Rattle.slang_reading.specs.Kinds.{is_mark}
use Rattle.slang_grammar.specs.Tables.{builtin_of, unary_of, binary_of, level_of}
use Rattle.slang_grammar.specs.Descent.{Limits}
use Rattle.slang_grammar.specs.ExpressionsDescent.{Value, word_begins, begins_by, primary_word, primary_by, chain_by, unary_mark, unary_by, operator_mark, operator_by}
use Rattle.expression_grammar.specs.Ends.{goes_on_by}

module _ (limits : Limits) (d : ℕ) (inner : ℕ → Parser Value) where
  -- what is no `>` is an operator by its mark
  pub operator_other : (l : ℕ) (x : Value) (t : Lexed) (mark : Mark) → is_mark m.Greater (k.Mark mark) ≡ false → operator_by limits d inner l x t (k.Mark mark) ≡ operator_mark limits d inner l x t (binary_of mark)
  operator_other l x t m.OpenBrace e = refl
  operator_other l x t m.CloseBrace e = refl
  operator_other l x t m.OpenParen e = refl
  operator_other l x t m.CloseParen e = refl
  operator_other l x t m.OpenBracket e = refl
  operator_other l x t m.CloseBracket e = refl
  operator_other l x t m.Less e = refl
  operator_other l x t m.Equal e = refl
  operator_other l x t m.Semicolon e = refl
  operator_other l x t m.Comma e = refl
  operator_other l x t m.Colon e = refl
  operator_other l x t m.DoubleColon e = refl
  operator_other l x t m.Dot e = refl
  operator_other l x t m.Question e = refl
  operator_other l x t m.Plus e = refl
  operator_other l x t m.Minus e = refl
  operator_other l x t m.Star e = refl
  operator_other l x t m.Slash e = refl
  operator_other l x t m.Percent e = refl
  operator_other l x t m.And e = refl
  operator_other l x t m.Or e = refl
  operator_other l x t m.Caret e = refl
  operator_other l x t m.Not e = refl
  operator_other l x t m.Tilde e = refl
  operator_other l x t m.AndAnd e = refl
  operator_other l x t m.OrOr e = refl
  operator_other l x t m.EqualEqual e = refl
  operator_other l x t m.NotEqual e = refl
  operator_other l x t m.LessEqual e = refl
  operator_other l x t m.ShiftLeft e = refl
  operator_other l x t m.PlusPlus e = refl
  operator_other l x t m.MinusMinus e = refl
  operator_other l x t m.PlusEqual e = refl
  operator_other l x t m.MinusEqual e = refl
  operator_other l x t m.StarEqual e = refl
  operator_other l x t m.SlashEqual e = refl
  operator_other l x t m.PercentEqual e = refl
  operator_other l x t m.AndEqual e = refl
  operator_other l x t m.OrEqual e = refl
  operator_other l x t m.CaretEqual e = refl
  operator_other l x t m.ShiftLeftEqual e = refl
  operator_other l x t m.Greater e = cc

  -- what is no `(` is an operator before an operand by its mark
  pub unary_other : (t : Lexed) (mark : Mark) → is_mark m.OpenParen (k.Mark mark) ≡ false → unary_by limits d inner t (k.Mark mark) ≡ unary_mark limits d inner t (unary_of mark)
  unary_other t m.OpenBrace e = refl
  unary_other t m.CloseBrace e = refl
  unary_other t m.OpenParen e = cc
  unary_other t m.CloseParen e = refl
  unary_other t m.OpenBracket e = refl
  unary_other t m.CloseBracket e = refl
  unary_other t m.Less e = refl
  unary_other t m.Equal e = refl
  unary_other t m.Semicolon e = refl
  unary_other t m.Comma e = refl
  unary_other t m.Colon e = refl
  unary_other t m.DoubleColon e = refl
  unary_other t m.Dot e = refl
  unary_other t m.Question e = refl
  unary_other t m.Plus e = refl
  unary_other t m.Minus e = refl
  unary_other t m.Star e = refl
  unary_other t m.Slash e = refl
  unary_other t m.Percent e = refl
  unary_other t m.And e = refl
  unary_other t m.Or e = refl
  unary_other t m.Caret e = refl
  unary_other t m.Not e = refl
  unary_other t m.Tilde e = refl
  unary_other t m.AndAnd e = refl
  unary_other t m.OrOr e = refl
  unary_other t m.EqualEqual e = refl
  unary_other t m.NotEqual e = refl
  unary_other t m.LessEqual e = refl
  unary_other t m.ShiftLeft e = refl
  unary_other t m.PlusPlus e = refl
  unary_other t m.MinusMinus e = refl
  unary_other t m.PlusEqual e = refl
  unary_other t m.MinusEqual e = refl
  unary_other t m.StarEqual e = refl
  unary_other t m.SlashEqual e = refl
  unary_other t m.PercentEqual e = refl
  unary_other t m.AndEqual e = refl
  unary_other t m.OrEqual e = refl
  unary_other t m.CaretEqual e = refl
  unary_other t m.ShiftLeftEqual e = refl
  unary_other t m.Greater e = refl

  -- no other mark begins a primary
  pub primary_other : (t : Lexed) (mark : Mark) → is_mark m.OpenParen (k.Mark mark) ≡ false → primary_by limits d inner t (k.Mark mark) ≡ Refuse
  primary_other t m.OpenBrace e = refl
  primary_other t m.CloseBrace e = refl
  primary_other t m.OpenParen e = cc
  primary_other t m.CloseParen e = refl
  primary_other t m.OpenBracket e = refl
  primary_other t m.CloseBracket e = refl
  primary_other t m.Less e = refl
  primary_other t m.Equal e = refl
  primary_other t m.Semicolon e = refl
  primary_other t m.Comma e = refl
  primary_other t m.Colon e = refl
  primary_other t m.DoubleColon e = refl
  primary_other t m.Dot e = refl
  primary_other t m.Question e = refl
  primary_other t m.Plus e = refl
  primary_other t m.Minus e = refl
  primary_other t m.Star e = refl
  primary_other t m.Slash e = refl
  primary_other t m.Percent e = refl
  primary_other t m.And e = refl
  primary_other t m.Or e = refl
  primary_other t m.Caret e = refl
  primary_other t m.Not e = refl
  primary_other t m.Tilde e = refl
  primary_other t m.AndAnd e = refl
  primary_other t m.OrOr e = refl
  primary_other t m.EqualEqual e = refl
  primary_other t m.NotEqual e = refl
  primary_other t m.LessEqual e = refl
  primary_other t m.ShiftLeft e = refl
  primary_other t m.PlusPlus e = refl
  primary_other t m.MinusMinus e = refl
  primary_other t m.PlusEqual e = refl
  primary_other t m.MinusEqual e = refl
  primary_other t m.StarEqual e = refl
  primary_other t m.SlashEqual e = refl
  primary_other t m.PercentEqual e = refl
  primary_other t m.AndEqual e = refl
  primary_other t m.OrEqual e = refl
  primary_other t m.CaretEqual e = refl
  primary_other t m.ShiftLeftEqual e = refl
  primary_other t m.Greater e = refl

  -- no other mark goes on a primary
  pub chain_other : (x : Value) (t : Option Lexed) (mark : Mark) → is_mark m.Dot (k.Mark mark) ≡ false → is_mark m.OpenBracket (k.Mark mark) ≡ false → is_mark m.OpenParen (k.Mark mark) ≡ false → chain_by limits d inner x t (k.Mark mark) ≡ Refuse
  chain_other x t m.OpenBrace e f g = refl
  chain_other x t m.CloseBrace e f g = refl
  chain_other x t m.OpenParen e f g = cc
  chain_other x t m.CloseParen e f g = refl
  chain_other x t m.OpenBracket e f g = cc
  chain_other x t m.CloseBracket e f g = refl
  chain_other x t m.Less e f g = refl
  chain_other x t m.Equal e f g = refl
  chain_other x t m.Semicolon e f g = refl
  chain_other x t m.Comma e f g = refl
  chain_other x t m.Colon e f g = refl
  chain_other x t m.DoubleColon e f g = refl
  chain_other x t m.Dot e f g = cc
  chain_other x t m.Question e f g = refl
  chain_other x t m.Plus e f g = refl
  chain_other x t m.Minus e f g = refl
  chain_other x t m.Star e f g = refl
  chain_other x t m.Slash e f g = refl
  chain_other x t m.Percent e f g = refl
  chain_other x t m.And e f g = refl
  chain_other x t m.Or e f g = refl
  chain_other x t m.Caret e f g = refl
  chain_other x t m.Not e f g = refl
  chain_other x t m.Tilde e f g = refl
  chain_other x t m.AndAnd e f g = refl
  chain_other x t m.OrOr e f g = refl
  chain_other x t m.EqualEqual e f g = refl
  chain_other x t m.NotEqual e f g = refl
  chain_other x t m.LessEqual e f g = refl
  chain_other x t m.ShiftLeft e f g = refl
  chain_other x t m.PlusPlus e f g = refl
  chain_other x t m.MinusMinus e f g = refl
  chain_other x t m.PlusEqual e f g = refl
  chain_other x t m.MinusEqual e f g = refl
  chain_other x t m.StarEqual e f g = refl
  chain_other x t m.SlashEqual e f g = refl
  chain_other x t m.PercentEqual e f g = refl
  chain_other x t m.AndEqual e f g = refl
  chain_other x t m.OrEqual e f g = refl
  chain_other x t m.CaretEqual e f g = refl
  chain_other x t m.ShiftLeftEqual e f g = refl
  chain_other x t m.Greater e f g = refl

  -- the words that are values
  pub data WordOf (word : Word) (t : Lexed) : Type 0 where
    true_word : word ≡ w.True → WordOf word t
    false_word : word ≡ w.False → WordOf word t
    this_value : word ≡ w.ThisValue → WordOf word t
    this_type : word ≡ w.ThisType → WordOf word t
    other : primary_word limits d inner t word None ≡ Refuse → WordOf word t

  pub word_of : (word : Word) (t : Lexed) → WordOf word t
  word_of w.AssociatedType t = other refl
  word_of w.Bool t = other refl
  word_of w.Break t = other refl
  word_of w.Const t = other refl
  word_of w.Continue t = other refl
  word_of w.Else t = other refl
  word_of w.Extension t = other refl
  word_of w.False t = false_word refl
  word_of w.For t = other refl
  word_of w.If t = other refl
  word_of w.Import t = other refl
  word_of w.In t = other refl
  word_of w.InOut t = other refl
  word_of w.Int t = other refl
  word_of w.Int2 t = other refl
  word_of w.Int3 t = other refl
  word_of w.Int4 t = other refl
  word_of w.Interface t = other refl
  word_of w.Internal t = other refl
  word_of w.Let t = other refl
  word_of w.Module t = other refl
  word_of w.Out t = other refl
  word_of w.Private t = other refl
  word_of w.Public t = other refl
  word_of w.Return t = other refl
  word_of w.Static t = other refl
  word_of w.Struct t = other refl
  word_of w.ThisType t = this_type refl
  word_of w.ThisValue t = this_value refl
  word_of w.True t = true_word refl
  word_of w.TypeAlias t = other refl
  word_of w.TypeDef t = other refl
  word_of w.Uint t = other refl
  word_of w.Uint2 t = other refl
  word_of w.Uint3 t = other refl
  word_of w.Uint4 t = other refl
  word_of w.Void t = other refl
  word_of w.Where t = other refl
  word_of w.While t = other refl
  word_of w.StructuredBuffer t = other refl
  word_of w.RwStructuredBuffer t = other refl
  word_of w.ConstantBuffer t = other refl
  word_of w.ParameterBlock t = other refl

true_false : true ≡ false → ⊥
true_false e = cc

none_some : (op : BinaryOperator) → None ≡ Some op → ⊥
none_some op e = cc

-- an operator before an operand begins an expression
pub begins_unary : (mark : Mark) (op : UnaryOperator) → unary_of mark ≡ Some op → begins_by (k.Mark mark) ≡ true
begins_unary m.OpenBrace op e = cc
begins_unary m.CloseBrace op e = cc
begins_unary m.OpenParen op e = cc
begins_unary m.CloseParen op e = cc
begins_unary m.OpenBracket op e = cc
begins_unary m.CloseBracket op e = cc
begins_unary m.Less op e = cc
begins_unary m.Equal op e = cc
begins_unary m.Semicolon op e = cc
begins_unary m.Comma op e = cc
begins_unary m.Colon op e = cc
begins_unary m.DoubleColon op e = cc
begins_unary m.Dot op e = cc
begins_unary m.Question op e = cc
begins_unary m.Plus op e = refl
begins_unary m.Minus op e = refl
begins_unary m.Star op e = cc
begins_unary m.Slash op e = cc
begins_unary m.Percent op e = cc
begins_unary m.And op e = cc
begins_unary m.Or op e = cc
begins_unary m.Caret op e = cc
begins_unary m.Not op e = refl
begins_unary m.Tilde op e = refl
begins_unary m.AndAnd op e = cc
begins_unary m.OrOr op e = cc
begins_unary m.EqualEqual op e = cc
begins_unary m.NotEqual op e = cc
begins_unary m.LessEqual op e = cc
begins_unary m.ShiftLeft op e = cc
begins_unary m.PlusPlus op e = cc
begins_unary m.MinusMinus op e = cc
begins_unary m.PlusEqual op e = cc
begins_unary m.MinusEqual op e = cc
begins_unary m.StarEqual op e = cc
begins_unary m.SlashEqual op e = cc
begins_unary m.PercentEqual op e = cc
begins_unary m.AndEqual op e = cc
begins_unary m.OrEqual op e = cc
begins_unary m.CaretEqual op e = cc
begins_unary m.ShiftLeftEqual op e = cc
begins_unary m.Greater op e = cc

-- and so does a type with its values
pub begins_builtin : (word : Word) (b : Builtin) → builtin_of word ≡ Some b → word_begins word ≡ true
begins_builtin w.AssociatedType b e = cc
begins_builtin w.Bool b e = refl
begins_builtin w.Break b e = cc
begins_builtin w.Const b e = cc
begins_builtin w.Continue b e = cc
begins_builtin w.Else b e = cc
begins_builtin w.Extension b e = cc
begins_builtin w.False b e = cc
begins_builtin w.For b e = cc
begins_builtin w.If b e = cc
begins_builtin w.Import b e = cc
begins_builtin w.In b e = cc
begins_builtin w.InOut b e = cc
begins_builtin w.Int b e = refl
begins_builtin w.Int2 b e = refl
begins_builtin w.Int3 b e = refl
begins_builtin w.Int4 b e = refl
begins_builtin w.Interface b e = cc
begins_builtin w.Internal b e = cc
begins_builtin w.Let b e = cc
begins_builtin w.Module b e = cc
begins_builtin w.Out b e = cc
begins_builtin w.Private b e = cc
begins_builtin w.Public b e = cc
begins_builtin w.Return b e = cc
begins_builtin w.Static b e = cc
begins_builtin w.Struct b e = cc
begins_builtin w.ThisType b e = cc
begins_builtin w.ThisValue b e = cc
begins_builtin w.True b e = cc
begins_builtin w.TypeAlias b e = cc
begins_builtin w.TypeDef b e = cc
begins_builtin w.Uint b e = refl
begins_builtin w.Uint2 b e = refl
begins_builtin w.Uint3 b e = refl
begins_builtin w.Uint4 b e = refl
begins_builtin w.Void b e = refl
begins_builtin w.Where b e = cc
begins_builtin w.While b e = cc
begins_builtin w.StructuredBuffer b e = cc
begins_builtin w.RwStructuredBuffer b e = cc
begins_builtin w.ConstantBuffer b e = cc
begins_builtin w.ParameterBlock b e = cc

-- a mark with which no expression goes on
pub ends_mark : (mark : Mark) → goes_on_by (k.Mark mark) ≡ false →
    (is_mark m.Dot (k.Mark mark) ≡ false) × (is_mark m.OpenBracket (k.Mark mark) ≡ false) × (is_mark m.OpenParen (k.Mark mark) ≡ false) × (is_mark m.Question (k.Mark mark) ≡ false) × (binary_of mark ≡ None)
ends_mark m.OpenBrace e = (refl, refl, refl, refl, refl)
ends_mark m.CloseBrace e = (refl, refl, refl, refl, refl)
ends_mark m.OpenParen e = absurd (true_false e)
ends_mark m.CloseParen e = (refl, refl, refl, refl, refl)
ends_mark m.OpenBracket e = absurd (true_false e)
ends_mark m.CloseBracket e = (refl, refl, refl, refl, refl)
ends_mark m.Less e = absurd (true_false e)
ends_mark m.Equal e = (refl, refl, refl, refl, refl)
ends_mark m.Semicolon e = (refl, refl, refl, refl, refl)
ends_mark m.Comma e = (refl, refl, refl, refl, refl)
ends_mark m.Colon e = (refl, refl, refl, refl, refl)
ends_mark m.DoubleColon e = (refl, refl, refl, refl, refl)
ends_mark m.Dot e = absurd (true_false e)
ends_mark m.Question e = absurd (true_false e)
ends_mark m.Plus e = absurd (true_false e)
ends_mark m.Minus e = absurd (true_false e)
ends_mark m.Star e = absurd (true_false e)
ends_mark m.Slash e = absurd (true_false e)
ends_mark m.Percent e = absurd (true_false e)
ends_mark m.And e = absurd (true_false e)
ends_mark m.Or e = absurd (true_false e)
ends_mark m.Caret e = absurd (true_false e)
ends_mark m.Not e = (refl, refl, refl, refl, refl)
ends_mark m.Tilde e = (refl, refl, refl, refl, refl)
ends_mark m.AndAnd e = absurd (true_false e)
ends_mark m.OrOr e = absurd (true_false e)
ends_mark m.EqualEqual e = absurd (true_false e)
ends_mark m.NotEqual e = absurd (true_false e)
ends_mark m.LessEqual e = absurd (true_false e)
ends_mark m.ShiftLeft e = absurd (true_false e)
ends_mark m.PlusPlus e = (refl, refl, refl, refl, refl)
ends_mark m.MinusMinus e = (refl, refl, refl, refl, refl)
ends_mark m.PlusEqual e = (refl, refl, refl, refl, refl)
ends_mark m.MinusEqual e = (refl, refl, refl, refl, refl)
ends_mark m.StarEqual e = (refl, refl, refl, refl, refl)
ends_mark m.SlashEqual e = (refl, refl, refl, refl, refl)
ends_mark m.PercentEqual e = (refl, refl, refl, refl, refl)
ends_mark m.AndEqual e = (refl, refl, refl, refl, refl)
ends_mark m.OrEqual e = (refl, refl, refl, refl, refl)
ends_mark m.CaretEqual e = (refl, refl, refl, refl, refl)
ends_mark m.ShiftLeftEqual e = (refl, refl, refl, refl, refl)
ends_mark m.Greater e = absurd (true_false e)

-- an operator between operands is no mark of another kind
pub operator_mark_only : (mark : Mark) (op : BinaryOperator) → binary_of mark ≡ Some op →
    (is_mark m.Dot (k.Mark mark) ≡ false) × (is_mark m.OpenBracket (k.Mark mark) ≡ false) × (is_mark m.OpenParen (k.Mark mark) ≡ false)
operator_mark_only m.OpenBrace op e = absurd (none_some op e)
operator_mark_only m.CloseBrace op e = absurd (none_some op e)
operator_mark_only m.OpenParen op e = absurd (none_some op e)
operator_mark_only m.CloseParen op e = absurd (none_some op e)
operator_mark_only m.OpenBracket op e = absurd (none_some op e)
operator_mark_only m.CloseBracket op e = absurd (none_some op e)
operator_mark_only m.Less op e = (refl, refl, refl)
operator_mark_only m.Equal op e = absurd (none_some op e)
operator_mark_only m.Semicolon op e = absurd (none_some op e)
operator_mark_only m.Comma op e = absurd (none_some op e)
operator_mark_only m.Colon op e = absurd (none_some op e)
operator_mark_only m.DoubleColon op e = absurd (none_some op e)
operator_mark_only m.Dot op e = absurd (none_some op e)
operator_mark_only m.Question op e = absurd (none_some op e)
operator_mark_only m.Plus op e = (refl, refl, refl)
operator_mark_only m.Minus op e = (refl, refl, refl)
operator_mark_only m.Star op e = (refl, refl, refl)
operator_mark_only m.Slash op e = (refl, refl, refl)
operator_mark_only m.Percent op e = (refl, refl, refl)
operator_mark_only m.And op e = (refl, refl, refl)
operator_mark_only m.Or op e = (refl, refl, refl)
operator_mark_only m.Caret op e = (refl, refl, refl)
operator_mark_only m.Not op e = absurd (none_some op e)
operator_mark_only m.Tilde op e = absurd (none_some op e)
operator_mark_only m.AndAnd op e = (refl, refl, refl)
operator_mark_only m.OrOr op e = (refl, refl, refl)
operator_mark_only m.EqualEqual op e = (refl, refl, refl)
operator_mark_only m.NotEqual op e = (refl, refl, refl)
operator_mark_only m.LessEqual op e = (refl, refl, refl)
operator_mark_only m.ShiftLeft op e = (refl, refl, refl)
operator_mark_only m.PlusPlus op e = absurd (none_some op e)
operator_mark_only m.MinusMinus op e = absurd (none_some op e)
operator_mark_only m.PlusEqual op e = absurd (none_some op e)
operator_mark_only m.MinusEqual op e = absurd (none_some op e)
operator_mark_only m.StarEqual op e = absurd (none_some op e)
operator_mark_only m.SlashEqual op e = absurd (none_some op e)
operator_mark_only m.PercentEqual op e = absurd (none_some op e)
operator_mark_only m.AndEqual op e = absurd (none_some op e)
operator_mark_only m.OrEqual op e = absurd (none_some op e)
operator_mark_only m.CaretEqual op e = absurd (none_some op e)
operator_mark_only m.ShiftLeftEqual op e = absurd (none_some op e)
operator_mark_only m.Greater op e = (refl, refl, refl)

-- and is no `(`
pub unary_only : (mark : Mark) (op : UnaryOperator) → unary_of mark ≡ Some op → is_mark m.OpenParen (k.Mark mark) ≡ false
unary_only m.OpenBrace op e = refl
unary_only m.CloseBrace op e = refl
unary_only m.OpenParen op e = cc
unary_only m.CloseParen op e = refl
unary_only m.OpenBracket op e = refl
unary_only m.CloseBracket op e = refl
unary_only m.Less op e = refl
unary_only m.Equal op e = refl
unary_only m.Semicolon op e = refl
unary_only m.Comma op e = refl
unary_only m.Colon op e = refl
unary_only m.DoubleColon op e = refl
unary_only m.Dot op e = refl
unary_only m.Question op e = refl
unary_only m.Plus op e = refl
unary_only m.Minus op e = refl
unary_only m.Star op e = refl
unary_only m.Slash op e = refl
unary_only m.Percent op e = refl
unary_only m.And op e = refl
unary_only m.Or op e = refl
unary_only m.Caret op e = refl
unary_only m.Not op e = refl
unary_only m.Tilde op e = refl
unary_only m.AndAnd op e = refl
unary_only m.OrOr op e = refl
unary_only m.EqualEqual op e = refl
unary_only m.NotEqual op e = refl
unary_only m.LessEqual op e = refl
unary_only m.ShiftLeft op e = refl
unary_only m.PlusPlus op e = refl
unary_only m.MinusMinus op e = refl
unary_only m.PlusEqual op e = refl
unary_only m.MinusEqual op e = refl
unary_only m.StarEqual op e = refl
unary_only m.SlashEqual op e = refl
unary_only m.PercentEqual op e = refl
unary_only m.AndEqual op e = refl
unary_only m.OrEqual op e = refl
unary_only m.CaretEqual op e = refl
unary_only m.ShiftLeftEqual op e = refl
unary_only m.Greater op e = refl

-- whole expressions are no level of an operator
pub level_bound : (op : BinaryOperator) → level_of op < 10
level_bound o.Or = omega arith
level_bound o.And = omega arith
level_bound o.BitOr = omega arith
level_bound o.BitXor = omega arith
level_bound o.BitAnd = omega arith
level_bound o.Equal = omega arith
level_bound o.NotEqual = omega arith
level_bound o.Less = omega arith
level_bound o.Greater = omega arith
level_bound o.LessEqual = omega arith
level_bound o.GreaterEqual = omega arith
level_bound o.ShiftLeft = omega arith
level_bound o.ShiftRight = omega arith
level_bound o.Add = omega arith
level_bound o.Subtract = omega arith
level_bound o.Multiply = omega arith
level_bound o.Divide = omega arith
level_bound o.Remainder = omega arith
