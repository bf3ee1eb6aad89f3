-- Expressions: which tokens spell which expression.
use Rattle.std.specs.Prelude.{◌≡◌, ℕ, zero, suc, ◌+◌, Bool, true, ◌||◌, List, [], ◌∷◌, ◌++◌, drop, Option, Some}
use Rattle.slang_names.specs.declared.places.Place.{Place}
use Rattle.slang_names.specs.declared.numbers.Number.{Number}
use Rattle.slang_tree.specs.declared.types.Identifier.{Identifier}
use Rattle.slang_tree.specs.declared.types.Builtin.{Builtin}
use Rattle.slang_tree.specs.declared.types.GenericArgument.{GenericArgument}
use Rattle.slang_tree.specs.declared.expressions.UnaryOperator.{UnaryOperator}
use Rattle.slang_tree.specs.declared.expressions.BinaryOperator.{BinaryOperator}
use Rattle.slang_tree.specs.declared.expressions.BinaryOperator.TheVariants as o
use Rattle.slang_tree.specs.declared.expressions.ExprTree.{ExprTree}
use Rattle.slang_tree.specs.declared.expressions.ExprNode.{ExprNode}
use Rattle.slang_tree.specs.declared.expressions.ExprNode.TheVariants as n
use Rattle.slang_tokens.specs.declared.tokens.Kind.TheVariants as k
use Rattle.slang_tokens.specs.declared.tokens.Mark.{Mark}
use Rattle.slang_tokens.specs.declared.tokens.Mark.TheVariants as m
use Rattle.slang_tokens.specs.declared.tokens.Word.{Word}
use Rattle.slang_tokens.specs.declared.tokens.Word.TheVariants as w
use Rattle.slang_reading.specs.Lexed.{Lexed}
use Rattle.slang_reading.specs.Reading.{first}
use Rattle.slang_reading.specs.Kinds.{sees, span}
use Rattle.slang_grammar.specs.Tables.{builtin_of, unary_of, binary_of, level_of}
use Rattle.slang_grammar.specs.Standing.{Stands, NameStands}
use Rattle.slang_grammar.specs.Types.{ArgumentsAt}

abbrev pub valued : Place → ExprNode → ExprTree
valued p x = record { place = p; node = x }

-- ---- a name, and the rule for `<` behind it

-- what stands behind generic arguments in an expression
abbrev pub follows : Option Lexed → Bool
follows x = sees m.OpenParen x || sees m.Dot x

-- no generic arguments stand there that `(` or `.` follows directly
pub record NoArguments (ts : List Lexed) (at : ℕ) : Type 0 where
  pub none : (args : List GenericArgument) (end : Place) (to : ℕ) → ArgumentsAt ts args end at to → follows (first (drop to ts)) ≡ true → ⊥

-- A name, its generic arguments, and the place that ends it. A `<` behind a name begins generic arguments exactly where
-- the tokens from it on spell them and `(` or `.` follows directly.
pub data NameAt (ts : List Lexed) : Identifier → List GenericArgument → Place → ℕ → ℕ → Type 0 where
  alone : {at : ℕ} {id : Identifier} → NameStands ts at id → NoArguments ts (at + 1) → NameAt ts id [] id.place at (at + 1)
  generic : {from to : ℕ} {id : Identifier} {args : List GenericArgument} {end : Place} → NameStands ts from id → ArgumentsAt ts args end (from + 1) to →
      follows (first (drop to ts)) ≡ true → NameAt ts id args end from to

-- ---- operators

-- An operator between operands. `>=` and `>>` are `>` with `=` or `>` directly behind it.
pub data OperatorAt (ts : List Lexed) : BinaryOperator → ℕ → ℕ → Type 0 where
  mark : {at : ℕ} {p : Place} {x : Mark} {op : BinaryOperator} → Stands ts at (k.Mark x) p → binary_of x ≡ Some op → OperatorAt ts op at (at + 1)
  greater_equal : {at : ℕ} {p q : Place} → Stands ts at (k.Mark m.Greater) p → Stands ts (at + 1) (k.Mark m.Equal) q → p.end ≡ q.start → OperatorAt ts o.GreaterEqual at (at + 1 + 1)
  shift_right : {at : ℕ} {p q : Place} → Stands ts at (k.Mark m.Greater) p → Stands ts (at + 1) (k.Mark m.Greater) q → p.end ≡ q.start → OperatorAt ts o.ShiftRight at (at + 1 + 1)

-- the loosest level of operators
abbrev pub loosest : ℕ
loosest = 10

mutual
  -- a condition with two values, or a value with operators of all levels
  pub data ExprAt (ts : List Lexed) : ExprTree → ℕ → ℕ → Type 0 where
    plain : {from to : ℕ} {x : ExprTree} → LevelAt ts loosest x from to → ExprAt ts x from to
    choice : {from mid at to : ℕ} {p q : Place} {x y z : ExprTree} → LevelAt ts loosest x from mid → Stands ts mid (k.Mark m.Question) p → ExprAt ts y (mid + 1) at →
        Stands ts at (k.Mark m.Colon) q → ExprAt ts z (at + 1) to → ExprAt ts (valued (span x.place z.place) (n.Choice x y z)) from to

  -- with the operators that bind more tightly than the level; they group to the left
  pub data LevelAt (ts : List Lexed) : ℕ → ExprTree → ℕ → ℕ → Type 0 where
    unary : {from to : ℕ} {x : ExprTree} → UnaryAt ts x from to → LevelAt ts zero x from to
    binary : {l from mid to : ℕ} {x y : ExprTree} → LevelAt ts l x from mid → BinaryAt ts l x y mid to → LevelAt ts (suc l) y from to

  -- x goes on as the left operand of operators of that level, and becomes y
  pub data BinaryAt (ts : List Lexed) : ℕ → ExprTree → ExprTree → ℕ → ℕ → Type 0 where
    operand : {l at : ℕ} {x : ExprTree} → BinaryAt ts l x x at at
    operator : {l from mid at to : ℕ} {x y z : ExprTree} {op : BinaryOperator} → OperatorAt ts op from mid → level_of op ≡ l → LevelAt ts l z mid at →
        BinaryAt ts l (valued (span x.place z.place) (n.Binary op x z)) y at to → BinaryAt ts l x y from to

  -- operators and casts before an operand
  pub data UnaryAt (ts : List Lexed) : ExprTree → ℕ → ℕ → Type 0 where
    simple : {from to : ℕ} {x : ExprTree} → PostfixAt ts x from to → UnaryAt ts x from to
    prefix : {from to : ℕ} {p : Place} {x : ExprTree} {mark : Mark} {op : UnaryOperator} → Stands ts from (k.Mark mark) p → unary_of mark ≡ Some op → UnaryAt ts x (from + 1) to →
        UnaryAt ts (valued (span p x.place) (n.Unary op x)) from to
    cast : {from to : ℕ} {p q r : Place} {x : ExprTree} {word : Word} {b : Builtin} → Stands ts from (k.Mark m.OpenParen) p → Stands ts (from + 1) (k.Word word) q →
        builtin_of word ≡ Some b → Stands ts (from + 1 + 1) (k.Mark m.CloseParen) r → UnaryAt ts x (from + 1 + 1 + 1) to →
        UnaryAt ts (valued (span p x.place) (n.Cast b x)) from to

  pub data PostfixAt (ts : List Lexed) : ExprTree → ℕ → ℕ → Type 0 where
    postfix : {from mid to : ℕ} {x y : ExprTree} → PrimaryAt ts x from mid → ChainAt ts x y mid to → PostfixAt ts y from to

  -- x goes on with members, indices and calls, and becomes y
  pub data ChainAt (ts : List Lexed) : ExprTree → ExprTree → ℕ → ℕ → Type 0 where
    whole : {at : ℕ} {x : ExprTree} → ChainAt ts x x at at
    member : {from mid to : ℕ} {p end : Place} {x y : ExprTree} {id : Identifier} {args : List GenericArgument} → Stands ts from (k.Mark m.Dot) p → NameAt ts id args end (from + 1) mid →
        ChainAt ts (valued (span x.place end) (n.Member x id args)) y mid to → ChainAt ts x y from to
    index : {from at to : ℕ} {p end : Place} {x y i : ExprTree} → Stands ts from (k.Mark m.OpenBracket) p → ExprAt ts i (from + 1) at → Stands ts at (k.Mark m.CloseBracket) end →
        ChainAt ts (valued (span x.place end) (n.Index x i)) y (at + 1) to → ChainAt ts x y from to
    call : {from mid to : ℕ} {p end : Place} {x y : ExprTree} {args : List ExprTree} → Stands ts from (k.Mark m.OpenParen) p → ValuesAt ts args end (from + 1) mid →
        ChainAt ts (valued (span x.place end) (n.Call x args)) y mid to → ChainAt ts x y from to

  -- behind the opening parenthesis, the values of a call and the parenthesis that closes them
  pub data ValuesAt (ts : List Lexed) : List ExprTree → Place → ℕ → ℕ → Type 0 where
    no_values : {at : ℕ} {end : Place} → Stands ts at (k.Mark m.CloseParen) end → ValuesAt ts [] end at (at + 1)
    values : {from mid at : ℕ} {end : Place} {x : ExprTree} {all : List ExprTree} → ExprAt ts x from mid → MoreValuesAt ts (x ∷ []) all mid at →
        Stands ts at (k.Mark m.CloseParen) end → ValuesAt ts all end from (at + 1)

  -- the list so far goes on to be that list
  pub data MoreValuesAt (ts : List Lexed) : List ExprTree → List ExprTree → ℕ → ℕ → Type 0 where
    end : {at : ℕ} {list : List ExprTree} → MoreValuesAt ts list list at at
    more : {from mid to : ℕ} {p : Place} {x : ExprTree} {list all : List ExprTree} → Stands ts from (k.Mark m.Comma) p → ExprAt ts x (from + 1) mid →
        MoreValuesAt ts (list ++ x ∷ []) all mid to → MoreValuesAt ts list all from to

  pub data PrimaryAt (ts : List Lexed) : ExprTree → ℕ → ℕ → Type 0 where
    number : {at : ℕ} {p : Place} {v : Number} → Stands ts at (k.Number v) p → PrimaryAt ts (valued p (n.Number v)) at (at + 1)
    true_word : {at : ℕ} {p : Place} → Stands ts at (k.Word w.True) p → PrimaryAt ts (valued p n.True) at (at + 1)
    false_word : {at : ℕ} {p : Place} → Stands ts at (k.Word w.False) p → PrimaryAt ts (valued p n.False) at (at + 1)
    this_value : {at : ℕ} {p : Place} → Stands ts at (k.Word w.ThisValue) p → PrimaryAt ts (valued p n.ThisValue) at (at + 1)
    this_type : {at : ℕ} {p : Place} → Stands ts at (k.Word w.ThisType) p → PrimaryAt ts (valued p n.ThisType) at (at + 1)
    name : {from to : ℕ} {end : Place} {id : Identifier} {args : List GenericArgument} → NameAt ts id args end from to → PrimaryAt ts (valued (span id.place end) (n.Name id args)) from to
    construct : {from to : ℕ} {p q end : Place} {word : Word} {b : Builtin} {args : List ExprTree} → Stands ts from (k.Word word) p → builtin_of word ≡ Some b →
        Stands ts (from + 1) (k.Mark m.OpenParen) q → ValuesAt ts args end (from + 1 + 1) to → PrimaryAt ts (valued (span p end) (n.Construct b args)) from to
    paren : {from at : ℕ} {p end : Place} {x : ExprTree} → Stands ts from (k.Mark m.OpenParen) p → ExprAt ts x (from + 1) at → Stands ts at (k.Mark m.CloseParen) end →
        PrimaryAt ts (valued (span p end) (n.Paren x)) from (at + 1)
