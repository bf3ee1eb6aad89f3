-- What is spelled ends no earlier than it begins, so a loop that takes a token a turn runs out of no turns.
use Rattle.std.proofs.Common.{◌≡◌, ℕ, zero, suc, ◌+◌, ◌<◌, ◌≤◌, List, drop, length, Option, Some, arith}
use Rattle.slang_names.specs.declared.places.Place.{Place}
use Rattle.slang_tree.specs.declared.types.Identifier.{Identifier}
use Rattle.slang_tree.specs.declared.types.Term.{Term}
use Rattle.slang_tree.specs.declared.types.TypeTree.{TypeTree}
use Rattle.slang_tree.specs.declared.types.GenericArgument.{GenericArgument}
use Rattle.slang_tree.specs.declared.expressions.ExprTree.{ExprTree}
use Rattle.slang_tree.specs.declared.expressions.BinaryOperator.{BinaryOperator}
use Rattle.slang_tree.specs.declared.statements.DeclaredName.{DeclaredName}
use Rattle.slang_tree.specs.declared.statements.Initializer.{Initializer}
use Rattle.slang_tree.specs.declared.statements.ListTree.{ListTree}
use Rattle.slang_tree.specs.declared.statements.LocalName.{LocalName}
use Rattle.slang_tree.specs.declared.statements.Local.{Local}
use Rattle.slang_tree.specs.declared.statements.Attribute.{Attribute}
use Rattle.slang_tree.specs.declared.statements.Literal.{Literal}
use Rattle.slang_tree.specs.declared.statements.Change.{Change}
use Rattle.slang_tree.specs.declared.statements.LoopStart.{LoopStart}
use Rattle.slang_tree.specs.declared.statements.StatTree.{StatTree}
use Rattle.slang_reading.specs.Lexed.{Lexed}
use Rattle.slang_reading.specs.Reading.{first}
use Rattle.slang_reading.proofs.Tame.{within}
use Rattle.slang_grammar.specs.Types as y
use Rattle.slang_grammar.specs.Types.{TypeAt, ProjectionsAt, TypeNameAt, ArgumentsAt, MoreArgumentsAt, ArgumentAt}
use Rattle.slang_grammar.specs.Expressions as e
use Rattle.slang_grammar.specs.Expressions.{NameAt, OperatorAt, ExprAt, LevelAt, BinaryAt, UnaryAt, PostfixAt, ChainAt, ValuesAt, MoreValuesAt, PrimaryAt}
use Rattle.slang_grammar.specs.Descent.{Limits}
use Rattle.slang_grammar.proofs.Limited.{Turns}
use Rattle.statement_grammar.specs.Attributes as attr
use Rattle.statement_grammar.specs.Attributes.{MoreLiteralsAt, AttributeRestAt, AttributeAt, AttributesAt}
use Rattle.statement_grammar.specs.Statements as t
use Rattle.statement_grammar.specs.Statements.{LengthsAt, DeclaredNameAt, InitializerAt, ListAt, MoreItemsAt, LocalNameAt, MoreLocalNamesAt, LocalAt, AssignAt, ChangeAt, MaybeAt, StartAt, StepAt, HeadAt, ConditionAt, StatAt, StatsAt}

-- as many turns as tokens, as nodes may stand on a path and as items in a list
pub record Enough (ts : List Lexed) (limits : Limits) (d : ℕ) : Type 0 where
  pub tokens : length ts ≤ limits.turns
  pub depth : d ≤ limits.turns
  pub items : limits.items ≤ limits.turns

pub fewer : {ts : List Lexed} {limits : Limits} {d : ℕ} → Enough ts limits (suc d) → Enough ts limits d
fewer u = let h = u.depth in record { tokens = u.tokens; depth = omega (arith, h); items = u.items }

pub turns_of : {ts : List Lexed} {limits : Limits} {d : ℕ} → Enough ts limits d → Turns limits d
turns_of u = record { nodes = u.depth; items = u.items }

-- as many turns are left as tokens
abbrev pub Left : List Lexed → ℕ → ℕ → Type 0
Left ts count at = length ts ≤ at + count

pub left_all : {ts : List Lexed} {limits : Limits} {d : ℕ} → Enough ts limits d → (at : ℕ) → Left ts limits.turns at
left_all u at = let h = u.tokens in omega (arith, h)

pub left_next : (ts : List Lexed) (count at to : ℕ) → at < to → Left ts (suc count) at → Left ts count to
left_next ts count at to h l = omega (arith, h, l)

pub left_none : (ts : List Lexed) (at : ℕ) (tok : Lexed) → first (drop at ts) ≡ Some tok → Left ts zero at → ⊥
left_none ts at tok s l = let h = within at ts tok s in omega (arith, h, l)

module _ (ts : List Lexed) where
  -- ---- types

  projections_move : {x z : TypeTree} {from to : ℕ} → ProjectionsAt ts x z from to → from ≤ to
  projections_move y.whole = omega arith
  projections_move (y.project s i r) = let a = projections_move r in omega (arith, a)

  mutual
    pub type_moves : {x : TypeTree} {from to : ℕ} → TypeAt ts x from to → from ≤ to
    type_moves (y.plain n r) = let a = type_name_moves n in let b = projections_move r in omega (arith, a, b)
    type_moves (y.array n r o v c) = let a = type_name_moves n in let b = projections_move r in omega (arith, a, b)

    type_name_moves : {x : TypeTree} {from to : ℕ} → TypeNameAt ts x from to → from ≤ to
    type_name_moves (y.builtin s q) = omega arith
    type_name_moves (y.this_type s) = omega arith
    type_name_moves (y.name i) = omega arith
    type_name_moves (y.generic i r) = let a = arguments_move r in omega (arith, a)
    type_name_moves (y.resource s q u v c) = let a = type_moves v in omega (arith, a)

    arguments_move : {args : List GenericArgument} {end : Place} {from to : ℕ} → ArgumentsAt ts args end from to → from ≤ to
    arguments_move (y.arguments s x r c) = let a = argument_moves x in let b = more_arguments_move r in omega (arith, a, b)

    more_arguments_move : {xs zs : List GenericArgument} {from to : ℕ} → MoreArgumentsAt ts xs zs from to → from ≤ to
    more_arguments_move y.end = omega arith
    more_arguments_move (y.more s x r) = let a = argument_moves x in let b = more_arguments_move r in omega (arith, a, b)

    argument_moves : {x : GenericArgument} {from to : ℕ} → ArgumentAt ts x from to → from ≤ to
    argument_moves (y.type_argument v) = type_moves v
    argument_moves (y.number_argument s) = omega arith

  -- ---- expressions

  name_moves : {id : Identifier} {args : List GenericArgument} {end : Place} {from to : ℕ} → NameAt ts id args end from to → from ≤ to
  name_moves (e.alone s n) = omega arith
  name_moves (e.generic s r f) = let a = arguments_move r in omega (arith, a)

  operator_moves : {op : BinaryOperator} {from to : ℕ} → OperatorAt ts op from to → from ≤ to
  operator_moves (e.mark s q) = omega arith
  operator_moves (e.greater_equal s u j) = omega arith
  operator_moves (e.shift_right s u j) = omega arith

  mutual
    pub expr_moves : {x : ExprTree} {from to : ℕ} → ExprAt ts x from to → from ≤ to
    expr_moves (e.plain v) = level_moves v
    expr_moves (e.choice v s u c r) = let a = level_moves v in let b = expr_moves u in let c = expr_moves r in omega (arith, a, b, c)

    level_moves : {l : ℕ} {x : ExprTree} {from to : ℕ} → LevelAt ts l x from to → from ≤ to
    level_moves (e.unary v) = unary_moves v
    level_moves (e.binary v r) = let a = level_moves v in let b = binary_moves r in omega (arith, a, b)

    binary_moves : {l : ℕ} {x z : ExprTree} {from to : ℕ} → BinaryAt ts l x z from to → from ≤ to
    binary_moves e.operand = omega arith
    binary_moves (e.operator o q v r) = let a = operator_moves o in let b = level_moves v in let c = binary_moves r in omega (arith, a, b, c)

    unary_moves : {x : ExprTree} {from to : ℕ} → UnaryAt ts x from to → from ≤ to
    unary_moves (e.simple v) = postfix_moves v
    unary_moves (e.prefix s q v) = let a = unary_moves v in omega (arith, a)
    unary_moves (e.cast s u q c v) = let a = unary_moves v in omega (arith, a)

    pub postfix_moves : {x : ExprTree} {from to : ℕ} → PostfixAt ts x from to → from ≤ to
    postfix_moves (e.postfix p c) = let a = primary_moves p in let b = chain_moves c in omega (arith, a, b)

    chain_moves : {x z : ExprTree} {from to : ℕ} → ChainAt ts x z from to → from ≤ to
    chain_moves e.whole = omega arith
    chain_moves (e.member s n c) = let a = name_moves n in let b = chain_moves c in omega (arith, a, b)
    chain_moves (e.index s v q c) = let a = expr_moves v in let b = chain_moves c in omega (arith, a, b)
    chain_moves (e.call s v c) = let a = values_move v in let b = chain_moves c in omega (arith, a, b)

    values_move : {args : List ExprTree} {end : Place} {from to : ℕ} → ValuesAt ts args end from to → from ≤ to
    values_move (e.no_values s) = omega arith
    values_move (e.values v r s) = let a = expr_moves v in let b = more_values_move r in omega (arith, a, b)

    more_values_move : {xs zs : List ExprTree} {from to : ℕ} → MoreValuesAt ts xs zs from to → from ≤ to
    more_values_move e.end = omega arith
    more_values_move (e.more s v r) = let a = expr_moves v in let b = more_values_move r in omega (arith, a, b)

    primary_moves : {x : ExprTree} {from to : ℕ} → PrimaryAt ts x from to → from ≤ to
    primary_moves (e.number s) = omega arith
    primary_moves (e.true_word s) = omega arith
    primary_moves (e.false_word s) = omega arith
    primary_moves (e.this_value s) = omega arith
    primary_moves (e.this_type s) = omega arith
    primary_moves (e.name n) = name_moves n
    primary_moves (e.construct s q o v) = let a = values_move v in omega (arith, a)
    primary_moves (e.paren s v c) = let a = expr_moves v in omega (arith, a)

  -- ---- locals

  pub lengths_move : {xs zs : List Term} {p q : Place} {from to : ℕ} → LengthsAt ts xs zs p q from to → from ≤ to
  lengths_move (t.end n) = omega arith
  lengths_move (t.more s v c r) = let a = lengths_move r in omega (arith, a)

  pub declared_moves : {x : DeclaredName} {end : Place} {from to : ℕ} → DeclaredNameAt ts x end from to → from ≤ to
  declared_moves (t.declared_name s r) = let a = lengths_move r in omega (arith, a)

  mutual
    initializer_moves : {x : Initializer} {end : Place} {from to : ℕ} → InitializerAt ts x end from to → from ≤ to
    initializer_moves (t.expression v) = expr_moves v
    initializer_moves (t.braces l) = list_moves l

    list_moves : {x : ListTree} {from to : ℕ} → ListAt ts x from to → from ≤ to
    list_moves (t.no_items s c) = omega arith
    list_moves (t.items s v r c) = let a = initializer_moves v in let b = items_move r in omega (arith, a, b)

    items_move : {xs zs : List Initializer} {from to : ℕ} → MoreItemsAt ts xs zs from to → from ≤ to
    items_move t.end = omega arith
    items_move (t.more s v r) = let a = initializer_moves v in let b = items_move r in omega (arith, a, b)

  pub local_name_moves : {x : LocalName} {end : Place} {from to : ℕ} → LocalNameAt ts x end from to → from ≤ to
  local_name_moves (t.alone r n) = declared_moves r
  local_name_moves (t.begun r s v) = let a = declared_moves r in let b = initializer_moves v in omega (arith, a, b)

  names_move : {xs zs : List LocalName} {p q : Place} {from to : ℕ} → MoreLocalNamesAt ts xs zs p q from to → from ≤ to
  names_move (t.end n) = omega arith
  names_move (t.more s v r) = let a = local_name_moves v in let b = names_move r in omega (arith, a, b)

  pub local_moves : {x : Local} {from to : ℕ} → LocalAt ts x from to → from ≤ to
  local_moves (t.variable u v r) = let a = type_moves u in let b = local_name_moves v in let c = names_move r in omega (arith, a, b, c)
  local_moves (t.constant s u v r) = let a = type_moves u in let b = local_name_moves v in let c = names_move r in omega (arith, a, b, c)

  -- ---- attributes

  literals_move : {xs zs : List Literal} {from to : ℕ} → MoreLiteralsAt ts xs zs from to → from ≤ to
  literals_move attr.end = omega arith
  literals_move (attr.more s l r) = let h = literals_move r in omega (arith, h)

  rest_moves : {list : List Literal} {end : Place} {from to : ℕ} → AttributeRestAt ts list end from to → from ≤ to
  rest_moves (attr.no_literals s) = omega arith
  rest_moves (attr.literals s l r c d) = let h = literals_move r in omega (arith, h)

  pub attribute_moves : {x : Attribute} {from to : ℕ} → AttributeAt ts x from to → from < to
  attribute_moves (attr.named o i r) = let h = rest_moves r in omega (arith, h)
  attribute_moves (attr.binding o q b) = omega arith

  pub attributes_move : {xs zs : List Attribute} {from to : ℕ} → AttributesAt ts xs zs from to → from ≤ to
  attributes_move (attr.end q) = omega arith
  attributes_move (attr.more r s) = let h = attribute_moves r in let g = attributes_move s in omega (arith, h, g)

  -- ---- statements

  assign_moves : {op : Option BinaryOperator} {from to : ℕ} → AssignAt ts op from to → from ≤ to
  assign_moves (t.assign s) = omega arith
  assign_moves (t.update s q) = omega arith
  assign_moves (t.shift_right s v j w l) = omega arith

  change_moves : {x : Change} {from to : ℕ} → ChangeAt ts x from to → from ≤ to
  change_moves (t.assignment r s v) = let a = postfix_moves r in let b = assign_moves s in let c = expr_moves v in omega (arith, a, b, c)
  change_moves (t.step_before s q r) = let a = postfix_moves r in omega (arith, a)
  change_moves (t.step_behind r s q) = let a = postfix_moves r in omega (arith, a)
  change_moves (t.call r q) = postfix_moves r

  maybe_moves : {x : Option ExprTree} {from to : ℕ} → MaybeAt ts x from to → from ≤ to
  maybe_moves t.absent = omega arith
  maybe_moves (t.present v) = expr_moves v

  start_moves : {x : LoopStart} {from to : ℕ} → StartAt ts x from to → from ≤ to
  start_moves t.nothing = omega arith
  start_moves (t.local r) = local_moves r
  start_moves (t.change r) = change_moves r

  step_moves : {x : Option Change} {from to : ℕ} → StepAt ts x from to → from ≤ to
  step_moves t.absent = omega arith
  step_moves (t.present r) = change_moves r

  head_moves : {x : LoopStart} {z : Option ExprTree} {w : Option Change} {from to : ℕ} → HeadAt ts x z w from to → from ≤ to
  head_moves (t.head o i j v l n c) = let a = start_moves i in let b = maybe_moves v in let d = step_moves n in omega (arith, a, b, d)

  condition_moves : {x : ExprTree} {from to : ℕ} → ConditionAt ts x from to → from ≤ to
  condition_moves (t.condition o v c) = let a = expr_moves v in omega (arith, a)

  mutual
    pub stat_moves : {x : StatTree} {from to : ℕ} → StatAt ts x from to → from < to
    stat_moves (t.block o r) = let a = stats_move r in omega (arith, a)
    stat_moves (t.local r z) = let a = local_moves r in omega (arith, a)
    stat_moves (t.change r z) = let a = change_moves r in omega (arith, a)
    stat_moves (t.empty o) = omega arith
    stat_moves (t.if_alone o r v n) = let a = condition_moves r in let b = stat_moves v in omega (arith, a, b)
    stat_moves (t.if_else o r v c w) = let a = condition_moves r in let b = stat_moves v in let d = stat_moves w in omega (arith, a, b, d)
    stat_moves (t.for_loop l o h v) = let a = attributes_move l in let b = head_moves h in let d = stat_moves v in omega (arith, a, b, d)
    stat_moves (t.while_loop l o r v) = let a = attributes_move l in let b = condition_moves r in let d = stat_moves v in omega (arith, a, b, d)
    stat_moves (t.return_value o r z) = let a = maybe_moves r in omega (arith, a)
    stat_moves (t.break_loop o z) = omega arith
    stat_moves (t.continue_loop o z) = omega arith

    pub stats_move : {xs zs : List StatTree} {p : Place} {from to : ℕ} → StatsAt ts xs zs p from to → from ≤ to
    stats_move (t.end c) = omega arith
    stats_move (t.more v r) = let a = stat_moves v in let b = stats_move r in omega (arith, a, b)
