-- What tokens begin types, expressions and operands, and what stands behind them.
use Rattle.std.proofs.Common.{Bool, true, false, ◌≡◌, ℕ, ◌+◌, List, drop, Option, Some, None, refl, sym, ◌∙◌, ap}
use Rattle.slang_names.specs.declared.places.Place.{Place}
use Rattle.slang_tree.specs.declared.types.TypeTree.{TypeTree}
use Rattle.slang_tree.specs.declared.types.Identifier.{Identifier}
use Rattle.slang_tree.specs.declared.types.Builtin.{Builtin}
use Rattle.slang_tree.specs.declared.types.Resource.{Resource}
use Rattle.slang_tree.specs.declared.expressions.UnaryOperator.{UnaryOperator}
use Rattle.slang_tree.specs.declared.expressions.BinaryOperator.{BinaryOperator}
use Rattle.slang_tree.specs.declared.expressions.ExprTree.{ExprTree}
use Rattle.slang_tree.specs.declared.statements.Step.{Step}
use Rattle.slang_tokens.specs.declared.tokens.Kind.{Kind}
use Rattle.slang_tokens.specs.declared.tokens.Kind.TheVariants as k
use Rattle.slang_tokens.specs.declared.tokens.Mark.{Mark}
use Rattle.slang_tokens.specs.declared.tokens.Mark.TheVariants as m
use Rattle.slang_tokens.specs.declared.tokens.Word.{Word}
use Rattle.slang_tokens.specs.declared.tokens.Word.TheVariants as w
use Rattle.slang_reading.specs.Lexed.{Lexed}
use Rattle.slang_reading.specs.Reading.{first}
use Rattle.slang_reading.specs.Kinds.{is_mark, is_word, sees, sees_word}
use Rattle.slang_reading.proofs.Marks.{same_word}
use Rattle.slang_grammar.specs.Tables.{builtin_of, resource_of, unary_of}
use Rattle.slang_grammar.specs.Standing.{Stands, NameStands, IsNot}
use Rattle.slang_grammar.specs.Types.{TypeAt, TypeNameAt, Quiet}
use Rattle.slang_grammar.specs.Types as ty
use Rattle.slang_grammar.specs.Expressions.{NameAt, ExprAt, LevelAt, UnaryAt, PostfixAt, PrimaryAt}
use Rattle.slang_grammar.specs.Expressions as ex
use Rattle.slang_grammar.specs.ExpressionsDescent.{word_begins, begins_by, begins}
use Rattle.slang_grammar.proofs.Shared.{not_there}
use Rattle.statement_grammar.specs.declared.tables.ChangeUse.TheVariants as what
use Rattle.statement_grammar.specs.declared.tables.StatementUse.TheVariants as u
use Rattle.statement_grammar.specs.Tables.{change_use, word_use, mark_use, statement_use}
use Rattle.statement_grammar.specs.StatementsDescent.{operand_by, operand_begins}

-- ---- what closes an expression or a change

abbrev pub closer : Mark → Bool
closer m.Semicolon = true
closer m.Comma = true
closer m.CloseParen = true
closer m.CloseBrace = true
closer _ = false

-- a mark stands there that closes
pub record Closes (ts : List Lexed) (at : ℕ) : Type 0 where
  pub mark : Mark
  pub place : Place
  pub is : Stands ts at (k.Mark mark) place
  pub closes : closer mark ≡ true

-- nothing stands there that goes on a primary
pub record Unchained (ts : List Lexed) (at : ℕ) : Type 0 where
  pub dot : IsNot ts m.Dot at
  pub bracket : IsNot ts m.OpenBracket at
  pub paren : IsNot ts m.OpenParen at

abbrev Unchains : Mark → Type 0
Unchains mark = (is_mark m.Dot (k.Mark mark) ≡ false) × (is_mark m.OpenBracket (k.Mark mark) ≡ false) × (is_mark m.OpenParen (k.Mark mark) ≡ false)

pub unchained_mark : (ts : List Lexed) (at : ℕ) (mark : Mark) (p : Place) → Stands ts at (k.Mark mark) p → Unchains mark → Unchained ts at
unchained_mark ts at mark p s u = record { dot = not_there ts m.Dot at (k.Mark mark) p s u.0; bracket = not_there ts m.OpenBracket at (k.Mark mark) p s u.1; paren = not_there ts m.OpenParen at (k.Mark mark) p s u.2 }

closer_unchains : (mark : Mark) → closer mark ≡ true → Unchains mark
closer_unchains m.OpenBrace e = cc
closer_unchains m.CloseBrace e = (refl, refl, refl)
closer_unchains m.OpenParen e = cc
closer_unchains m.CloseParen e = (refl, refl, refl)
closer_unchains m.OpenBracket e = cc
closer_unchains m.CloseBracket e = cc
closer_unchains m.Less e = cc
closer_unchains m.Equal e = cc
closer_unchains m.Semicolon e = (refl, refl, refl)
closer_unchains m.Comma e = (refl, refl, refl)
closer_unchains m.Colon e = cc
closer_unchains m.DoubleColon e = cc
closer_unchains m.Dot e = cc
closer_unchains m.Question e = cc
closer_unchains m.Plus e = cc
closer_unchains m.Minus e = cc
closer_unchains m.Star e = cc
closer_unchains m.Slash e = cc
closer_unchains m.Percent e = cc
closer_unchains m.And e = cc
closer_unchains m.Or e = cc
closer_unchains m.Caret e = cc
closer_unchains m.Not e = cc
closer_unchains m.Tilde e = cc
closer_unchains m.AndAnd e = cc
closer_unchains m.OrOr e = cc
closer_unchains m.EqualEqual e = cc
closer_unchains m.NotEqual e = cc
closer_unchains m.LessEqual e = cc
closer_unchains m.ShiftLeft e = cc
closer_unchains m.PlusPlus e = cc
closer_unchains m.MinusMinus e = cc
closer_unchains m.PlusEqual e = cc
closer_unchains m.MinusEqual e = cc
closer_unchains m.StarEqual e = cc
closer_unchains m.SlashEqual e = cc
closer_unchains m.PercentEqual e = cc
closer_unchains m.AndEqual e = cc
closer_unchains m.OrEqual e = cc
closer_unchains m.CaretEqual e = cc
closer_unchains m.ShiftLeftEqual e = cc
closer_unchains m.Greater e = cc

pub closer_ends : (mark : Mark) → closer mark ≡ true → change_use mark ≡ what.End
closer_ends m.OpenBrace e = cc
closer_ends m.CloseBrace e = refl
closer_ends m.OpenParen e = cc
closer_ends m.CloseParen e = refl
closer_ends m.OpenBracket e = cc
closer_ends m.CloseBracket e = cc
closer_ends m.Less e = cc
closer_ends m.Equal e = cc
closer_ends m.Semicolon e = refl
closer_ends m.Comma e = refl
closer_ends m.Colon e = cc
closer_ends m.DoubleColon e = cc
closer_ends m.Dot e = cc
closer_ends m.Question e = cc
closer_ends m.Plus e = cc
closer_ends m.Minus e = cc
closer_ends m.Star e = cc
closer_ends m.Slash e = cc
closer_ends m.Percent e = cc
closer_ends m.And e = cc
closer_ends m.Or e = cc
closer_ends m.Caret e = cc
closer_ends m.Not e = cc
closer_ends m.Tilde e = cc
closer_ends m.AndAnd e = cc
closer_ends m.OrOr e = cc
closer_ends m.EqualEqual e = cc
closer_ends m.NotEqual e = cc
closer_ends m.LessEqual e = cc
closer_ends m.ShiftLeft e = cc
closer_ends m.PlusPlus e = cc
closer_ends m.MinusMinus e = cc
closer_ends m.PlusEqual e = cc
closer_ends m.MinusEqual e = cc
closer_ends m.StarEqual e = cc
closer_ends m.SlashEqual e = cc
closer_ends m.PercentEqual e = cc
closer_ends m.AndEqual e = cc
closer_ends m.OrEqual e = cc
closer_ends m.CaretEqual e = cc
closer_ends m.ShiftLeftEqual e = cc
closer_ends m.Greater e = cc

pub closes_unchained : {ts : List Lexed} {at : ℕ} → Closes ts at → Unchained ts at
closes_unchained {ts = ts} {at = at} c = unchained_mark ts at c.mark c.place c.is (closer_unchains c.mark c.closes)

-- ---- behind the place of a change

pub update_unchains : (mark : Mark) (op : BinaryOperator) → change_use mark ≡ what.Update op → Unchains mark
update_unchains m.OpenBrace op e = cc
update_unchains m.CloseBrace op e = cc
update_unchains m.OpenParen op e = cc
update_unchains m.CloseParen op e = cc
update_unchains m.OpenBracket op e = cc
update_unchains m.CloseBracket op e = cc
update_unchains m.Less op e = cc
update_unchains m.Equal op e = cc
update_unchains m.Semicolon op e = cc
update_unchains m.Comma op e = cc
update_unchains m.Colon op e = cc
update_unchains m.DoubleColon op e = cc
update_unchains m.Dot op e = cc
update_unchains m.Question op e = cc
update_unchains m.Plus op e = cc
update_unchains m.Minus op e = cc
update_unchains m.Star op e = cc
update_unchains m.Slash op e = cc
update_unchains m.Percent op e = cc
update_unchains m.And op e = cc
update_unchains m.Or op e = cc
update_unchains m.Caret op e = cc
update_unchains m.Not op e = cc
update_unchains m.Tilde op e = cc
update_unchains m.AndAnd op e = cc
update_unchains m.OrOr op e = cc
update_unchains m.EqualEqual op e = cc
update_unchains m.NotEqual op e = cc
update_unchains m.LessEqual op e = cc
update_unchains m.ShiftLeft op e = cc
update_unchains m.PlusPlus op e = cc
update_unchains m.MinusMinus op e = cc
update_unchains m.PlusEqual op e = (refl, refl, refl)
update_unchains m.MinusEqual op e = (refl, refl, refl)
update_unchains m.StarEqual op e = (refl, refl, refl)
update_unchains m.SlashEqual op e = (refl, refl, refl)
update_unchains m.PercentEqual op e = (refl, refl, refl)
update_unchains m.AndEqual op e = (refl, refl, refl)
update_unchains m.OrEqual op e = (refl, refl, refl)
update_unchains m.CaretEqual op e = (refl, refl, refl)
update_unchains m.ShiftLeftEqual op e = (refl, refl, refl)
update_unchains m.Greater op e = cc

pub step_unchains : (mark : Mark) (step : Step) → change_use mark ≡ what.Step step → Unchains mark
step_unchains m.OpenBrace step e = cc
step_unchains m.CloseBrace step e = cc
step_unchains m.OpenParen step e = cc
step_unchains m.CloseParen step e = cc
step_unchains m.OpenBracket step e = cc
step_unchains m.CloseBracket step e = cc
step_unchains m.Less step e = cc
step_unchains m.Equal step e = cc
step_unchains m.Semicolon step e = cc
step_unchains m.Comma step e = cc
step_unchains m.Colon step e = cc
step_unchains m.DoubleColon step e = cc
step_unchains m.Dot step e = cc
step_unchains m.Question step e = cc
step_unchains m.Plus step e = cc
step_unchains m.Minus step e = cc
step_unchains m.Star step e = cc
step_unchains m.Slash step e = cc
step_unchains m.Percent step e = cc
step_unchains m.And step e = cc
step_unchains m.Or step e = cc
step_unchains m.Caret step e = cc
step_unchains m.Not step e = cc
step_unchains m.Tilde step e = cc
step_unchains m.AndAnd step e = cc
step_unchains m.OrOr step e = cc
step_unchains m.EqualEqual step e = cc
step_unchains m.NotEqual step e = cc
step_unchains m.LessEqual step e = cc
step_unchains m.ShiftLeft step e = cc
step_unchains m.PlusPlus step e = (refl, refl, refl)
step_unchains m.MinusMinus step e = (refl, refl, refl)
step_unchains m.PlusEqual step e = cc
step_unchains m.MinusEqual step e = cc
step_unchains m.StarEqual step e = cc
step_unchains m.SlashEqual step e = cc
step_unchains m.PercentEqual step e = cc
step_unchains m.AndEqual step e = cc
step_unchains m.OrEqual step e = cc
step_unchains m.CaretEqual step e = cc
step_unchains m.ShiftLeftEqual step e = cc
step_unchains m.Greater step e = cc

pub step_begins : (mark : Mark) (step : Step) → change_use mark ≡ what.Step step → statement_use (k.Mark mark) ≡ u.Simple
step_begins m.OpenBrace step e = cc
step_begins m.CloseBrace step e = cc
step_begins m.OpenParen step e = cc
step_begins m.CloseParen step e = cc
step_begins m.OpenBracket step e = cc
step_begins m.CloseBracket step e = cc
step_begins m.Less step e = cc
step_begins m.Equal step e = cc
step_begins m.Semicolon step e = cc
step_begins m.Comma step e = cc
step_begins m.Colon step e = cc
step_begins m.DoubleColon step e = cc
step_begins m.Dot step e = cc
step_begins m.Question step e = cc
step_begins m.Plus step e = cc
step_begins m.Minus step e = cc
step_begins m.Star step e = cc
step_begins m.Slash step e = cc
step_begins m.Percent step e = cc
step_begins m.And step e = cc
step_begins m.Or step e = cc
step_begins m.Caret step e = cc
step_begins m.Not step e = cc
step_begins m.Tilde step e = cc
step_begins m.AndAnd step e = cc
step_begins m.OrOr step e = cc
step_begins m.EqualEqual step e = cc
step_begins m.NotEqual step e = cc
step_begins m.LessEqual step e = cc
step_begins m.ShiftLeft step e = cc
step_begins m.PlusPlus step e = refl
step_begins m.MinusMinus step e = refl
step_begins m.PlusEqual step e = cc
step_begins m.MinusEqual step e = cc
step_begins m.StarEqual step e = cc
step_begins m.SlashEqual step e = cc
step_begins m.PercentEqual step e = cc
step_begins m.AndEqual step e = cc
step_begins m.OrEqual step e = cc
step_begins m.CaretEqual step e = cc
step_begins m.ShiftLeftEqual step e = cc
step_begins m.Greater step e = cc

-- ---- what begins an operand

operand_mark : (mark : Mark) → operand_by (k.Mark mark) ≡ true → (change_use mark ≡ what.End) × (mark_use mark ≡ u.Simple)
operand_mark m.OpenBrace e = cc
operand_mark m.CloseBrace e = cc
operand_mark m.OpenParen e = (refl, refl)
operand_mark m.CloseParen e = cc
operand_mark m.OpenBracket e = cc
operand_mark m.CloseBracket e = cc
operand_mark m.Less e = cc
operand_mark m.Equal e = cc
operand_mark m.Semicolon e = cc
operand_mark m.Comma e = cc
operand_mark m.Colon e = cc
operand_mark m.DoubleColon e = cc
operand_mark m.Dot e = cc
operand_mark m.Question e = cc
operand_mark m.Plus e = cc
operand_mark m.Minus e = cc
operand_mark m.Star e = cc
operand_mark m.Slash e = cc
operand_mark m.Percent e = cc
operand_mark m.And e = cc
operand_mark m.Or e = cc
operand_mark m.Caret e = cc
operand_mark m.Not e = cc
operand_mark m.Tilde e = cc
operand_mark m.AndAnd e = cc
operand_mark m.OrOr e = cc
operand_mark m.EqualEqual e = cc
operand_mark m.NotEqual e = cc
operand_mark m.LessEqual e = cc
operand_mark m.ShiftLeft e = cc
operand_mark m.PlusPlus e = cc
operand_mark m.MinusMinus e = cc
operand_mark m.PlusEqual e = cc
operand_mark m.MinusEqual e = cc
operand_mark m.StarEqual e = cc
operand_mark m.SlashEqual e = cc
operand_mark m.PercentEqual e = cc
operand_mark m.AndEqual e = cc
operand_mark m.OrEqual e = cc
operand_mark m.CaretEqual e = cc
operand_mark m.ShiftLeftEqual e = cc
operand_mark m.Greater e = cc

operand_word : (word : Word) → word_begins word ≡ true → word_use word ≡ u.Simple
operand_word w.AssociatedType e = cc
operand_word w.Bool e = refl
operand_word w.Break e = cc
operand_word w.Const e = cc
operand_word w.Continue e = cc
operand_word w.Else e = cc
operand_word w.Extension e = cc
operand_word w.False e = refl
operand_word w.For e = cc
operand_word w.If e = cc
operand_word w.Import e = cc
operand_word w.In e = cc
operand_word w.InOut e = cc
operand_word w.Int e = refl
operand_word w.Int2 e = refl
operand_word w.Int3 e = refl
operand_word w.Int4 e = refl
operand_word w.Interface e = cc
operand_word w.Internal e = cc
operand_word w.Let e = cc
operand_word w.Module e = cc
operand_word w.Out e = cc
operand_word w.Private e = cc
operand_word w.Public e = cc
operand_word w.Return e = cc
operand_word w.Static e = cc
operand_word w.Struct e = cc
operand_word w.ThisType e = refl
operand_word w.ThisValue e = refl
operand_word w.True e = refl
operand_word w.TypeAlias e = cc
operand_word w.TypeDef e = cc
operand_word w.Uint e = refl
operand_word w.Uint2 e = refl
operand_word w.Uint3 e = refl
operand_word w.Uint4 e = refl
operand_word w.Void e = refl
operand_word w.Where e = cc
operand_word w.While e = cc
operand_word w.StructuredBuffer e = cc
operand_word w.RwStructuredBuffer e = cc
operand_word w.ConstantBuffer e = cc
operand_word w.ParameterBlock e = cc

builtin_begins : (word : Word) (b : Builtin) → builtin_of word ≡ Some b → word_begins word ≡ true
builtin_begins w.AssociatedType b e = cc
builtin_begins w.Bool b e = refl
builtin_begins w.Break b e = cc
builtin_begins w.Const b e = cc
builtin_begins w.Continue b e = cc
builtin_begins w.Else b e = cc
builtin_begins w.Extension b e = cc
builtin_begins w.False b e = cc
builtin_begins w.For b e = cc
builtin_begins w.If b e = cc
builtin_begins w.Import b e = cc
builtin_begins w.In b e = cc
builtin_begins w.InOut b e = cc
builtin_begins w.Int b e = refl
builtin_begins w.Int2 b e = refl
builtin_begins w.Int3 b e = refl
builtin_begins w.Int4 b e = refl
builtin_begins w.Interface b e = cc
builtin_begins w.Internal b e = cc
builtin_begins w.Let b e = cc
builtin_begins w.Module b e = cc
builtin_begins w.Out b e = cc
builtin_begins w.Private b e = cc
builtin_begins w.Public b e = cc
builtin_begins w.Return b e = cc
builtin_begins w.Static b e = cc
builtin_begins w.Struct b e = cc
builtin_begins w.ThisType b e = cc
builtin_begins w.ThisValue b e = cc
builtin_begins w.True b e = cc
builtin_begins w.TypeAlias b e = cc
builtin_begins w.TypeDef b e = cc
builtin_begins w.Uint b e = refl
builtin_begins w.Uint2 b e = refl
builtin_begins w.Uint3 b e = refl
builtin_begins w.Uint4 b e = refl
builtin_begins w.Void b e = refl
builtin_begins w.Where b e = cc
builtin_begins w.While b e = cc
builtin_begins w.StructuredBuffer b e = cc
builtin_begins w.RwStructuredBuffer b e = cc
builtin_begins w.ConstantBuffer b e = cc
builtin_begins w.ParameterBlock b e = cc

pub operand_simple : (kind : Kind) → operand_by kind ≡ true → statement_use kind ≡ u.Simple
operand_simple k.Name e = refl
operand_simple (k.Word word) e = operand_word word e
operand_simple (k.Number v) e = refl
operand_simple k.String e = cc
operand_simple (k.Mark mark) e = (operand_mark mark e).1

pub operand_changes : (mark : Mark) → operand_by (k.Mark mark) ≡ true → change_use mark ≡ what.End
operand_changes mark e = (operand_mark mark e).0

name_operand : {ts : List Lexed} {at : ℕ} (id : Identifier) → NameStands ts at id → operand_begins (first (drop at ts)) ≡ true
name_operand id i = ap operand_begins i.is

primary_operand : {ts : List Lexed} {x : ExprTree} {from to : ℕ} → PrimaryAt ts x from to → operand_begins (first (drop from ts)) ≡ true
primary_operand (ex.number s) = ap operand_begins s.is
primary_operand (ex.true_word s) = ap operand_begins s.is
primary_operand (ex.false_word s) = ap operand_begins s.is
primary_operand (ex.this_value s) = ap operand_begins s.is
primary_operand (ex.this_type s) = ap operand_begins s.is
primary_operand (ex.name (ex.alone {id = id} i n)) = name_operand id i
primary_operand (ex.name (ex.generic {id = id} i a f)) = name_operand id i
primary_operand (ex.construct {word = word} {b = b} s q o v) = ap operand_begins s.is ∙ builtin_begins word b q
primary_operand (ex.paren s v c) = ap operand_begins s.is

-- the token that begins an operand
pub postfix_operand : {ts : List Lexed} {x : ExprTree} {from to : ℕ} → PostfixAt ts x from to → operand_begins (first (drop from ts)) ≡ true
postfix_operand (ex.postfix p c) = primary_operand p

-- ---- what begins an expression

operand_is : (x : Option Lexed) → operand_begins x ≡ true → begins x ≡ true
operand_is None e = cc
operand_is (Some t) e = by t.kind e
  where
    by_mark : (mark : Mark) → operand_by (k.Mark mark) ≡ true → begins_by (k.Mark mark) ≡ true
    by_mark m.OpenBrace e = cc
    by_mark m.CloseBrace e = cc
    by_mark m.OpenParen e = refl
    by_mark m.CloseParen e = cc
    by_mark m.OpenBracket e = cc
    by_mark m.CloseBracket e = cc
    by_mark m.Less e = cc
    by_mark m.Equal e = cc
    by_mark m.Semicolon e = cc
    by_mark m.Comma e = cc
    by_mark m.Colon e = cc
    by_mark m.DoubleColon e = cc
    by_mark m.Dot e = cc
    by_mark m.Question e = cc
    by_mark m.Plus e = cc
    by_mark m.Minus e = cc
    by_mark m.Star e = cc
    by_mark m.Slash e = cc
    by_mark m.Percent e = cc
    by_mark m.And e = cc
    by_mark m.Or e = cc
    by_mark m.Caret e = cc
    by_mark m.Not e = cc
    by_mark m.Tilde e = cc
    by_mark m.AndAnd e = cc
    by_mark m.OrOr e = cc
    by_mark m.EqualEqual e = cc
    by_mark m.NotEqual e = cc
    by_mark m.LessEqual e = cc
    by_mark m.ShiftLeft e = cc
    by_mark m.PlusPlus e = cc
    by_mark m.MinusMinus e = cc
    by_mark m.PlusEqual e = cc
    by_mark m.MinusEqual e = cc
    by_mark m.StarEqual e = cc
    by_mark m.SlashEqual e = cc
    by_mark m.PercentEqual e = cc
    by_mark m.AndEqual e = cc
    by_mark m.OrEqual e = cc
    by_mark m.CaretEqual e = cc
    by_mark m.ShiftLeftEqual e = cc
    by_mark m.Greater e = cc

    by : (kind : Kind) → operand_by kind ≡ true → begins_by kind ≡ true
    by k.Name e = refl
    by (k.Word word) e = e
    by (k.Number v) e = refl
    by k.String e = cc
    by (k.Mark mark) e = by_mark mark e

unary_begins : (mark : Mark) (op : UnaryOperator) → unary_of mark ≡ Some op → begins_by (k.Mark mark) ≡ true
unary_begins m.OpenBrace op e = cc
unary_begins m.CloseBrace op e = cc
unary_begins m.OpenParen op e = cc
unary_begins m.CloseParen op e = cc
unary_begins m.OpenBracket op e = cc
unary_begins m.CloseBracket op e = cc
unary_begins m.Less op e = cc
unary_begins m.Equal op e = cc
unary_begins m.Semicolon op e = cc
unary_begins m.Comma op e = cc
unary_begins m.Colon op e = cc
unary_begins m.DoubleColon op e = cc
unary_begins m.Dot op e = cc
unary_begins m.Question op e = cc
unary_begins m.Plus op e = refl
unary_begins m.Minus op e = refl
unary_begins m.Star op e = cc
unary_begins m.Slash op e = cc
unary_begins m.Percent op e = cc
unary_begins m.And op e = cc
unary_begins m.Or op e = cc
unary_begins m.Caret op e = cc
unary_begins m.Not op e = refl
unary_begins m.Tilde op e = refl
unary_begins m.AndAnd op e = cc
unary_begins m.OrOr op e = cc
unary_begins m.EqualEqual op e = cc
unary_begins m.NotEqual op e = cc
unary_begins m.LessEqual op e = cc
unary_begins m.ShiftLeft op e = cc
unary_begins m.PlusPlus op e = cc
unary_begins m.MinusMinus op e = cc
unary_begins m.PlusEqual op e = cc
unary_begins m.MinusEqual op e = cc
unary_begins m.StarEqual op e = cc
unary_begins m.SlashEqual op e = cc
unary_begins m.PercentEqual op e = cc
unary_begins m.AndEqual op e = cc
unary_begins m.OrEqual op e = cc
unary_begins m.CaretEqual op e = cc
unary_begins m.ShiftLeftEqual op e = cc
unary_begins m.Greater op e = cc

unary_at : {ts : List Lexed} {x : ExprTree} {from to : ℕ} → UnaryAt ts x from to → begins (first (drop from ts)) ≡ true
unary_at (ex.simple p) = operand_is _ (postfix_operand p)
unary_at (ex.prefix {mark = mark} {op = op} s q r) = ap begins s.is ∙ unary_begins mark op q
unary_at (ex.cast s t q c r) = ap begins s.is

level_at : {ts : List Lexed} {l : ℕ} {x : ExprTree} {from to : ℕ} → LevelAt ts l x from to → begins (first (drop from ts)) ≡ true
level_at (ex.unary r) = unary_at r
level_at (ex.binary r b) = level_at r

-- the token that begins an expression
pub expr_begins : {ts : List Lexed} {x : ExprTree} {from to : ℕ} → ExprAt ts x from to → begins (first (drop from ts)) ≡ true
expr_begins (ex.plain r) = level_at r
expr_begins (ex.choice r q y c z) = level_at r

-- ---- what begins a type

builtin_simple : (word : Word) (b : Builtin) → builtin_of word ≡ Some b → word_use word ≡ u.Simple
builtin_simple w.AssociatedType b e = cc
builtin_simple w.Bool b e = refl
builtin_simple w.Break b e = cc
builtin_simple w.Const b e = cc
builtin_simple w.Continue b e = cc
builtin_simple w.Else b e = cc
builtin_simple w.Extension b e = cc
builtin_simple w.False b e = cc
builtin_simple w.For b e = cc
builtin_simple w.If b e = cc
builtin_simple w.Import b e = cc
builtin_simple w.In b e = cc
builtin_simple w.InOut b e = cc
builtin_simple w.Int b e = refl
builtin_simple w.Int2 b e = refl
builtin_simple w.Int3 b e = refl
builtin_simple w.Int4 b e = refl
builtin_simple w.Interface b e = cc
builtin_simple w.Internal b e = cc
builtin_simple w.Let b e = cc
builtin_simple w.Module b e = cc
builtin_simple w.Out b e = cc
builtin_simple w.Private b e = cc
builtin_simple w.Public b e = cc
builtin_simple w.Return b e = cc
builtin_simple w.Static b e = cc
builtin_simple w.Struct b e = cc
builtin_simple w.ThisType b e = cc
builtin_simple w.ThisValue b e = cc
builtin_simple w.True b e = cc
builtin_simple w.TypeAlias b e = cc
builtin_simple w.TypeDef b e = cc
builtin_simple w.Uint b e = refl
builtin_simple w.Uint2 b e = refl
builtin_simple w.Uint3 b e = refl
builtin_simple w.Uint4 b e = refl
builtin_simple w.Void b e = refl
builtin_simple w.Where b e = cc
builtin_simple w.While b e = cc
builtin_simple w.StructuredBuffer b e = cc
builtin_simple w.RwStructuredBuffer b e = cc
builtin_simple w.ConstantBuffer b e = cc
builtin_simple w.ParameterBlock b e = cc

resource_simple : (word : Word) (r : Resource) → resource_of word ≡ Some r → word_use word ≡ u.Simple
resource_simple w.AssociatedType r e = cc
resource_simple w.Bool r e = cc
resource_simple w.Break r e = cc
resource_simple w.Const r e = cc
resource_simple w.Continue r e = cc
resource_simple w.Else r e = cc
resource_simple w.Extension r e = cc
resource_simple w.False r e = cc
resource_simple w.For r e = cc
resource_simple w.If r e = cc
resource_simple w.Import r e = cc
resource_simple w.In r e = cc
resource_simple w.InOut r e = cc
resource_simple w.Int r e = cc
resource_simple w.Int2 r e = cc
resource_simple w.Int3 r e = cc
resource_simple w.Int4 r e = cc
resource_simple w.Interface r e = cc
resource_simple w.Internal r e = cc
resource_simple w.Let r e = cc
resource_simple w.Module r e = cc
resource_simple w.Out r e = cc
resource_simple w.Private r e = cc
resource_simple w.Public r e = cc
resource_simple w.Return r e = cc
resource_simple w.Static r e = cc
resource_simple w.Struct r e = cc
resource_simple w.ThisType r e = cc
resource_simple w.ThisValue r e = cc
resource_simple w.True r e = cc
resource_simple w.TypeAlias r e = cc
resource_simple w.TypeDef r e = cc
resource_simple w.Uint r e = cc
resource_simple w.Uint2 r e = cc
resource_simple w.Uint3 r e = cc
resource_simple w.Uint4 r e = cc
resource_simple w.Void r e = cc
resource_simple w.Where r e = cc
resource_simple w.While r e = cc
resource_simple w.StructuredBuffer r e = refl
resource_simple w.RwStructuredBuffer r e = refl
resource_simple w.ConstantBuffer r e = refl
resource_simple w.ParameterBlock r e = refl

no_const : (word : Word) → word_use word ≡ u.Simple → (word ≡ w.Const → ⊥) → is_word w.Const (k.Word word) ≡ false
no_const word e n = by (is_word w.Const (k.Word word)) refl
  where
    by : (b : Bool) → is_word w.Const (k.Word word) ≡ b → b ≡ false
    by true q = absurd (n (sym (same_word w.Const word q)))
    by false q = refl

-- a token that begins a type: it begins a statement as a simple one, and is not `const`
pub record TypeBegins (ts : List Lexed) (at : ℕ) : Type 0 where
  pub tok : Lexed
  pub is : first (drop at ts) ≡ Some tok
  pub simple : statement_use tok.kind ≡ u.Simple
  pub variable : is_word w.Const tok.kind ≡ false

type_name_begins : {ts : List Lexed} {x : TypeTree} {from to : ℕ} → TypeNameAt ts x from to → TypeBegins ts from
type_name_begins (ty.builtin {p = p} {word = word} {b = b} s q) = record { tok = record { kind = k.Word word; place = p; bytes = s.bytes }; is = s.is; simple = builtin_simple word b q; variable = no_const word (builtin_simple word b q) (λ e. let c = sym q ∙ ap builtin_of e in cc) }
type_name_begins (ty.this_type {p = p} s) = record { tok = record { kind = k.Word w.ThisType; place = p; bytes = s.bytes }; is = s.is; simple = refl; variable = refl }
type_name_begins (ty.name {id = id} i) = record { tok = record { kind = k.Name; place = id.place; bytes = id.name }; is = i.is; simple = refl; variable = refl }
type_name_begins (ty.generic {id = id} i a) = record { tok = record { kind = k.Name; place = id.place; bytes = id.name }; is = i.is; simple = refl; variable = refl }
type_name_begins (ty.resource {p = p} {word = word} {r = r} s q o u v) = record { tok = record { kind = k.Word word; place = p; bytes = s.bytes }; is = s.is; simple = resource_simple word r q; variable = no_const word (resource_simple word r q) (λ e. let c = sym q ∙ ap resource_of e in cc) }

pub type_begins : {ts : List Lexed} {x : TypeTree} {from to : ℕ} → TypeAt ts x from to → TypeBegins ts from
type_begins (ty.plain s r) = type_name_begins s
type_begins (ty.array s r o l c) = type_name_begins s

-- behind a type stands a name
pub quiet_name : {ts : List Lexed} {at : ℕ} (id : Identifier) → NameStands ts at id → Quiet ts at
quiet_name id i = record { less = record { is = ap (sees m.Less) i.is }; dot = record { is = ap (sees m.Dot) i.is }; bracket = record { is = ap (sees m.OpenBracket) i.is } }
