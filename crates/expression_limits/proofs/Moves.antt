-- What is spelled goes forward.
use Rattle.std.proofs.Common.{ℕ, ◌≤◌, ◌<◌, List, length, arith}
use Rattle.slang_tree.specs.declared.types.TypeTree.{TypeTree}
use Rattle.slang_tree.specs.declared.types.GenericArgument.{GenericArgument}
use Rattle.slang_tokens.specs.declared.tokens.Kind.{Kind}
use Rattle.slang_tokens.specs.declared.tokens.Kind.TheVariants as k
use Rattle.slang_tokens.specs.declared.tokens.Mark.TheVariants as m
use Rattle.slang_names.specs.declared.places.Place.{Place}
use Rattle.slang_tree.specs.declared.types.Identifier.{Identifier}
use Rattle.slang_tree.specs.declared.expressions.BinaryOperator.{BinaryOperator}
use Rattle.slang_tree.specs.declared.expressions.ExprTree.{ExprTree}
use Rattle.slang_grammar.specs.Expressions as ex
use Rattle.slang_grammar.specs.Expressions.{NameAt, OperatorAt, ExprAt, LevelAt, BinaryAt, UnaryAt, PostfixAt, ChainAt, ValuesAt, MoreValuesAt, PrimaryAt}
use Rattle.slang_reading.specs.Lexed.{Lexed}
use Rattle.slang_reading.proofs.Tame.{within}
use Rattle.slang_grammar.specs.Standing.{Stands}
use Rattle.slang_grammar.specs.Types as t
use Rattle.slang_grammar.specs.Types.{TypeAt, ProjectionsAt, TypeNameAt, ArgumentsAt, MoreArgumentsAt, ArgumentAt}

module _ (ts : List Lexed) where
  pub stands_within : (at : ℕ) (kind : Kind) (p : Place) → Stands ts at kind p → at < length ts
  stands_within at kind p s = within at ts _ s.is

  mutual
    pub type_moves : {x : TypeTree} {from to : ℕ} → TypeAt ts x from to → from < to
    type_moves (t.plain n r) = omega (arith, type_name_moves n, projections_move r)
    type_moves (t.array n r o l c) = omega (arith, type_name_moves n, projections_move r)

    pub projections_move : {x y : TypeTree} {from to : ℕ} → ProjectionsAt ts x y from to → from ≤ to
    projections_move t.whole = omega arith
    projections_move (t.project s i r) = omega (arith, projections_move r)

    pub type_name_moves : {x : TypeTree} {from to : ℕ} → TypeNameAt ts x from to → from < to
    type_name_moves (t.builtin s q) = omega arith
    type_name_moves (t.this_type s) = omega arith
    type_name_moves (t.name i) = omega arith
    type_name_moves (t.generic i a) = omega (arith, arguments_move a)
    type_name_moves (t.resource s q o x c) = omega (arith, type_moves x)

    pub arguments_move : {args : List GenericArgument} {end : _} {from to : ℕ} → ArgumentsAt ts args end from to → from < to
    arguments_move (t.arguments s a r o) = omega (arith, argument_moves a, more_arguments_move r)

    pub more_arguments_move : {xs ys : List GenericArgument} {from to : ℕ} → MoreArgumentsAt ts xs ys from to → from ≤ to
    more_arguments_move t.end = omega arith
    more_arguments_move (t.more s a r) = omega (arith, argument_moves a, more_arguments_move r)

    pub argument_moves : {x : GenericArgument} {from to : ℕ} → ArgumentAt ts x from to → from < to
    argument_moves (t.type_argument x) = type_moves x
    argument_moves (t.number_argument s) = omega arith

  pub name_moves : {id : Identifier} {args : List GenericArgument} {end : Place} {from to : ℕ} → NameAt ts id args end from to → from < to
  name_moves (ex.alone i a) = omega arith
  name_moves (ex.generic i a f) = omega (arith, arguments_move a)

  pub operator_moves : {op : BinaryOperator} {from to : ℕ} → OperatorAt ts op from to → from < to
  operator_moves (ex.mark s q) = omega arith
  operator_moves (ex.greater_equal s u j) = omega arith
  operator_moves (ex.shift_right s u j) = omega arith

  -- an operator is a token
  pub operator_within : {op : BinaryOperator} {from to : ℕ} → OperatorAt ts op from to → from < length ts
  operator_within {from = from} (ex.mark {p = p} {x = x} s q) = stands_within from (k.Mark x) p s
  operator_within {from = from} (ex.greater_equal {p = p} s u j) = stands_within from (k.Mark m.Greater) p s
  operator_within {from = from} (ex.shift_right {p = p} s u j) = stands_within from (k.Mark m.Greater) p s

  mutual
    pub expr_moves : {x : ExprTree} {from to : ℕ} → ExprAt ts x from to → from < to
    expr_moves (ex.plain v) = level_moves v
    expr_moves (ex.choice v s y c z) = omega (arith, level_moves v, expr_moves y, expr_moves z)

    pub level_moves : {l : ℕ} {x : ExprTree} {from to : ℕ} → LevelAt ts l x from to → from < to
    level_moves (ex.unary u) = unary_moves u
    level_moves (ex.binary v b) = omega (arith, level_moves v, binary_moves b)

    pub binary_moves : {l : ℕ} {x y : ExprTree} {from to : ℕ} → BinaryAt ts l x y from to → from ≤ to
    binary_moves ex.operand = omega arith
    binary_moves (ex.operator s e v b) = omega (arith, operator_moves s, level_moves v, binary_moves b)

    pub unary_moves : {x : ExprTree} {from to : ℕ} → UnaryAt ts x from to → from < to
    unary_moves (ex.simple p) = postfix_moves p
    unary_moves (ex.prefix s e u) = omega (arith, unary_moves u)
    unary_moves (ex.cast s t e r u) = omega (arith, unary_moves u)

    postfix_moves : {x : ExprTree} {from to : ℕ} → PostfixAt ts x from to → from < to
    postfix_moves (ex.postfix p c) = omega (arith, primary_moves p, chain_moves c)

    pub chain_moves : {x y : ExprTree} {from to : ℕ} → ChainAt ts x y from to → from ≤ to
    chain_moves ex.whole = omega arith
    chain_moves (ex.member s n c) = omega (arith, name_moves n, chain_moves c)
    chain_moves (ex.index s i r c) = omega (arith, expr_moves i, chain_moves c)
    chain_moves (ex.call s v c) = omega (arith, values_move v, chain_moves c)

    pub values_move : {args : List ExprTree} {end : _} {from to : ℕ} → ValuesAt ts args end from to → from < to
    values_move (ex.no_values s) = omega arith
    values_move (ex.values v r s) = omega (arith, expr_moves v, more_values_move r)

    pub more_values_move : {xs ys : List ExprTree} {from to : ℕ} → MoreValuesAt ts xs ys from to → from ≤ to
    more_values_move ex.end = omega arith
    more_values_move (ex.more s v r) = omega (arith, expr_moves v, more_values_move r)

    pub primary_moves : {x : ExprTree} {from to : ℕ} → PrimaryAt ts x from to → from < to
    primary_moves (ex.number s) = omega arith
    primary_moves (ex.true_word s) = omega arith
    primary_moves (ex.false_word s) = omega arith
    primary_moves (ex.this_value s) = omega arith
    primary_moves (ex.this_type s) = omega arith
    primary_moves (ex.name n) = name_moves n
    primary_moves (ex.construct s e o v) = omega (arith, values_move v)
    primary_moves (ex.paren s v r) = omega (arith, expr_moves v)
