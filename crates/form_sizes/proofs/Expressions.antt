-- What is counted of an expression is at most the bytes of the tokens that spell it.
use Rattle.std.proofs.Common.{ℕ, ◌+◌, ◌≤◌, List, arith}
use Rattle.slang_names.specs.declared.places.Place.{Place}
use Rattle.slang_tree.specs.declared.types.Identifier.{Identifier}
use Rattle.slang_tree.specs.declared.types.GenericArgument.{GenericArgument}
use Rattle.slang_tree.specs.declared.expressions.BinaryOperator.{BinaryOperator}
use Rattle.slang_tree.specs.declared.expressions.ExprTree.{ExprTree}
use Rattle.slang_reading.specs.Lexed.{Lexed}
use Rattle.slang_reading.specs.Kinds.{span}
use Rattle.slang_grammar.specs.Types as y
use Rattle.slang_grammar.specs.Types.{ArgumentsAt, MoreArgumentsAt, ArgumentAt}
use Rattle.slang_grammar.specs.Expressions as e
use Rattle.slang_grammar.specs.Expressions.{valued, NameAt, OperatorAt, ExprAt, LevelAt, BinaryAt, UnaryAt, PostfixAt, ChainAt, ValuesAt, MoreValuesAt, PrimaryAt}
use Rattle.statement_fits.proofs.Moves.{type_moves, expr_moves}
use Rattle.form_sizes.proofs.Tokens.{behind, behind_less, Sized, stands_has, name_has}
use Rattle.form_sizes.proofs.Weights.{weight, weight_number, weight_true, weight_false, weight_this_value, weight_this_type, weight_name, weight_construct, weight_paren, weight_member, weight_index, weight_call, weight_unary, weight_cast, weight_binary, weight_choice}

module _ (ts : List Lexed) where
  -- ---- what is spelled ends no earlier than it begins

  argument_moves : {x : GenericArgument} {from to : ℕ} → ArgumentAt ts x from to → from ≤ to
  argument_moves (y.type_argument v) = type_moves ts v
  argument_moves (y.number_argument s) = omega arith

  more_arguments_move : {xs zs : List GenericArgument} {from to : ℕ} → MoreArgumentsAt ts xs zs from to → from ≤ to
  more_arguments_move y.end = omega arith
  more_arguments_move (y.more s x r) = let a = argument_moves x in let b = more_arguments_move r in omega (arith, a, b)

  arguments_move : {args : List GenericArgument} {end : Place} {from to : ℕ} → ArgumentsAt ts args end from to → from ≤ to
  arguments_move (y.arguments s x r c) = let a = argument_moves x in let b = more_arguments_move r in omega (arith, a, b)

  more_values_move : {xs zs : List ExprTree} {from to : ℕ} → MoreValuesAt ts xs zs from to → from ≤ to
  more_values_move e.end = omega arith
  more_values_move (e.more s v r) = let a = expr_moves ts v in let b = more_values_move r in omega (arith, a, b)

  values_move : {args : List ExprTree} {end : Place} {from to : ℕ} → ValuesAt ts args end from to → from ≤ to
  values_move (e.no_values s) = omega arith
  values_move (e.values v r s) = let a = expr_moves ts v in let b = more_values_move r in omega (arith, a, b)

  -- ---- names and operators

  module _ (sized : Sized ts) where
    name_bytes : {id : Identifier} {args : List GenericArgument} {end : Place} {from to : ℕ} → NameAt ts id args end from to → 1 + behind ts to ≤ behind ts from
    name_bytes (e.alone s n) = name_has sized s
    name_bytes (e.generic {from = from} {to = to} s r f) =
        let a = name_has sized s in let b = behind_less ts (from + 1) to (arguments_move r) in omega (arith, a, b)

    operator_bytes : {op : BinaryOperator} {from to : ℕ} → OperatorAt ts op from to → 1 + behind ts to ≤ behind ts from
    operator_bytes (e.mark s q) = stands_has sized s
    operator_bytes (e.greater_equal s u j) = let a = stands_has sized s in let b = stands_has sized u in omega (arith, a, b)
    operator_bytes (e.shift_right s u j) = let a = stands_has sized s in let b = stands_has sized u in omega (arith, a, b)

    -- ---- expressions

    mutual
      pub expr_bytes : {x : ExprTree} {from to : ℕ} → ExprAt ts x from to → weight x + behind ts to ≤ behind ts from
      expr_bytes (e.plain v) = level_bytes v
      expr_bytes (e.choice {from = from} {to = to} {x = x} {y = y} {z = z} v s u c r) =
          let a = level_bytes v in let b = stands_has sized s in let d = expr_bytes u in let f = stands_has sized c in let g = expr_bytes r in
          let h = weight_choice (span x.place z.place) x y z in omega (arith, a, b, d, f, g, h)

      level_bytes : {l : ℕ} {x : ExprTree} {from to : ℕ} → LevelAt ts l x from to → weight x + behind ts to ≤ behind ts from
      level_bytes (e.unary v) = unary_bytes v
      level_bytes (e.binary v r) = let a = level_bytes v in let b = binary_bytes r in omega (arith, a, b)

      binary_bytes : {l : ℕ} {x z : ExprTree} {from to : ℕ} → BinaryAt ts l x z from to → weight z + behind ts to ≤ weight x + behind ts from
      binary_bytes e.operand = omega arith
      binary_bytes (e.operator {x = x} {z = z} {op = op} o q v r) =
          let a = operator_bytes o in let b = level_bytes v in let c = binary_bytes r in
          let h = weight_binary (span x.place z.place) op x z in omega (arith, a, b, c, h)

      unary_bytes : {x : ExprTree} {from to : ℕ} → UnaryAt ts x from to → weight x + behind ts to ≤ behind ts from
      unary_bytes (e.simple v) = postfix_bytes v
      unary_bytes (e.prefix {p = p} {x = x} {op = op} s q v) = let a = unary_bytes v in let b = stands_has sized s in let h = weight_unary (span p x.place) op x in omega (arith, a, b, h)
      unary_bytes (e.cast {p = p} {x = x} {b = b} s u q c v) =
          let a = unary_bytes v in let d = stands_has sized s in let f = stands_has sized u in let g = stands_has sized c in
          let h = weight_cast (span p x.place) b x in omega (arith, a, d, f, g, h)

      pub postfix_bytes : {x : ExprTree} {from to : ℕ} → PostfixAt ts x from to → weight x + behind ts to ≤ behind ts from
      postfix_bytes (e.postfix p c) = let a = primary_bytes p in let b = chain_bytes c in omega (arith, a, b)

      chain_bytes : {x z : ExprTree} {from to : ℕ} → ChainAt ts x z from to → weight z + behind ts to ≤ weight x + behind ts from
      chain_bytes e.whole = omega arith
      chain_bytes (e.member {end = end} {x = x} {id = id} {args = args} s n c) =
          let a = stands_has sized s in let b = name_bytes n in let d = chain_bytes c in
          let h = weight_member (span x.place end) x id args in omega (arith, a, b, d, h)
      chain_bytes (e.index {end = end} {x = x} {i = i} s v q c) =
          let a = stands_has sized s in let b = expr_bytes v in let d = stands_has sized q in let f = chain_bytes c in
          let h = weight_index (span x.place end) x i in omega (arith, a, b, d, f, h)
      chain_bytes (e.call {from = from} {mid = mid} {end = end} {x = x} {args = args} s v c) =
          let a = stands_has sized s in let b = behind_less ts (from + 1) mid (values_move v) in let d = chain_bytes c in
          let h = weight_call (span x.place end) x args in omega (arith, a, b, d, h)

      primary_bytes : {x : ExprTree} {from to : ℕ} → PrimaryAt ts x from to → weight x + behind ts to ≤ behind ts from
      primary_bytes (e.number {p = p} {v = v} s) = let a = stands_has sized s in let h = weight_number p v in omega (arith, a, h)
      primary_bytes (e.true_word {p = p} s) = let a = stands_has sized s in let h = weight_true p in omega (arith, a, h)
      primary_bytes (e.false_word {p = p} s) = let a = stands_has sized s in let h = weight_false p in omega (arith, a, h)
      primary_bytes (e.this_value {p = p} s) = let a = stands_has sized s in let h = weight_this_value p in omega (arith, a, h)
      primary_bytes (e.this_type {p = p} s) = let a = stands_has sized s in let h = weight_this_type p in omega (arith, a, h)
      primary_bytes (e.name {end = end} {id = id} {args = args} n) = let a = name_bytes n in let h = weight_name (span id.place end) id args in omega (arith, a, h)
      primary_bytes (e.construct {from = from} {to = to} {p = p} {end = end} {b = b} {args = args} s q o v) =
          let a = stands_has sized s in let d = stands_has sized o in let f = behind_less ts (from + 1 + 1) to (values_move v) in
          let h = weight_construct (span p end) b args in omega (arith, a, d, f, h)
      primary_bytes (e.paren {p = p} {end = end} {x = x} s v c) =
          let a = stands_has sized s in let b = expr_bytes v in let d = stands_has sized c in
          let h = weight_paren (span p end) x in omega (arith, a, b, d, h)
