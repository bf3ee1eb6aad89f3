-- What of an expression within the limits is within them too.
use Rattle.std.proofs.Common.{ℕ, suc, ◌<◌, ◌≤◌, List, [], ◌∷◌, ◌++◌, length, length-append, arith}
use Rattle.slang_names.specs.declared.places.Place.{Place}
use Rattle.slang_tree.specs.declared.types.Identifier.{Identifier}
use Rattle.slang_tree.specs.declared.types.Builtin.{Builtin}
use Rattle.slang_tree.specs.declared.types.GenericArgument.{GenericArgument}
use Rattle.slang_tree.specs.declared.expressions.UnaryOperator.{UnaryOperator}
use Rattle.slang_tree.specs.declared.expressions.BinaryOperator.{BinaryOperator}
use Rattle.slang_tree.specs.declared.expressions.ExprTree.{ExprTree}
use Rattle.slang_tree.specs.declared.expressions.ExprNode.TheVariants as n
use Rattle.slang_reading.specs.Lexed.{Lexed}
use Rattle.slang_grammar.specs.Expressions as ex
use Rattle.slang_grammar.specs.Expressions.{valued, BinaryAt, ChainAt, MoreValuesAt}
use Rattle.slang_grammar.specs.Descent.{Limits}
use Rattle.slang_grammar.specs.Sizes.{ArgumentsFit}
use Rattle.expression_grammar.specs.Heights.{expr_height}
use Rattle.expression_grammar.specs.Sizes.{expr_list, expr_name, Fits, ListFits}
use Rattle.expression_grammar.proofs.Heights.{height_name, height_construct, height_paren, height_member, height_index, height_call, height_unary, height_cast, height_binary, height_choice}
use Rattle.expression_grammar.proofs.Sizes.{list_name, name_name, list_construct, name_construct, list_paren, name_paren, list_member, name_member, list_index, name_index, list_call, name_call, list_unary, name_unary, list_cast, name_cast, list_binary, name_binary, list_choice, name_choice, greatest_last}

module _ (limits : Limits) (d : ℕ) (p : Place) where
  pub name_arguments : (id : Identifier) (args : List GenericArgument) → Fits limits (suc d) (valued p (n.Name id args)) → ArgumentsFit limits d args
  name_arguments id args f = record { nodes = omega (arith, f.nodes, height_name p id args); items = omega (arith, f.lists, list_name p id args); lists = omega (arith, f.lists, list_name p id args); names = omega (arith, f.names, name_name p id args) }

  pub construct_values : (b : Builtin) (args : List ExprTree) → Fits limits (suc d) (valued p (n.Construct b args)) → ListFits limits d args
  construct_values b args f = record { nodes = omega (arith, f.nodes, height_construct p b args); items = omega (arith, f.lists, list_construct p b args); lists = omega (arith, f.lists, list_construct p b args); names = omega (arith, f.names, name_construct p b args) }

  pub paren_value : (x : ExprTree) → Fits limits (suc d) (valued p (n.Paren x)) → Fits limits d x
  paren_value x f = record { nodes = omega (arith, f.nodes, height_paren p x); lists = omega (arith, f.lists, list_paren p x); names = omega (arith, f.names, name_paren p x) }

  pub member_value : (x : ExprTree) (id : Identifier) (args : List GenericArgument) → Fits limits (suc d) (valued p (n.Member x id args)) → Fits limits d x
  member_value x id args f = record { nodes = omega (arith, f.nodes, height_member p x id args); lists = omega (arith, f.lists, list_member p x id args); names = omega (arith, f.names, name_member p x id args) }

  pub member_arguments : (x : ExprTree) (id : Identifier) (args : List GenericArgument) → Fits limits (suc d) (valued p (n.Member x id args)) → ArgumentsFit limits d args
  member_arguments x id args f = record { nodes = omega (arith, f.nodes, height_member p x id args); items = omega (arith, f.lists, list_member p x id args); lists = omega (arith, f.lists, list_member p x id args); names = omega (arith, f.names, name_member p x id args) }

  pub index_value : (x i : ExprTree) → Fits limits (suc d) (valued p (n.Index x i)) → Fits limits d x
  index_value x i f = record { nodes = omega (arith, f.nodes, height_index p x i); lists = omega (arith, f.lists, list_index p x i); names = omega (arith, f.names, name_index p x i) }

  pub index_inside : (x i : ExprTree) → Fits limits (suc d) (valued p (n.Index x i)) → Fits limits d i
  index_inside x i f = record { nodes = omega (arith, f.nodes, height_index p x i); lists = omega (arith, f.lists, list_index p x i); names = omega (arith, f.names, name_index p x i) }

  pub call_value : (x : ExprTree) (args : List ExprTree) → Fits limits (suc d) (valued p (n.Call x args)) → Fits limits d x
  call_value x args f = record { nodes = omega (arith, f.nodes, height_call p x args); lists = omega (arith, f.lists, list_call p x args); names = omega (arith, f.names, name_call p x args) }

  pub call_values : (x : ExprTree) (args : List ExprTree) → Fits limits (suc d) (valued p (n.Call x args)) → ListFits limits d args
  call_values x args f = record { nodes = omega (arith, f.nodes, height_call p x args); items = omega (arith, f.lists, list_call p x args); lists = omega (arith, f.lists, list_call p x args); names = omega (arith, f.names, name_call p x args) }

  pub unary_value : (op : UnaryOperator) (x : ExprTree) → Fits limits (suc d) (valued p (n.Unary op x)) → Fits limits d x
  unary_value op x f = record { nodes = omega (arith, f.nodes, height_unary p op x); lists = omega (arith, f.lists, list_unary p op x); names = omega (arith, f.names, name_unary p op x) }

  pub cast_value : (b : Builtin) (x : ExprTree) → Fits limits (suc d) (valued p (n.Cast b x)) → Fits limits d x
  cast_value b x f = record { nodes = omega (arith, f.nodes, height_cast p b x); lists = omega (arith, f.lists, list_cast p b x); names = omega (arith, f.names, name_cast p b x) }

  pub binary_left : (op : BinaryOperator) (x y : ExprTree) → Fits limits (suc d) (valued p (n.Binary op x y)) → Fits limits d x
  binary_left op x y f = record { nodes = omega (arith, f.nodes, height_binary p op x y); lists = omega (arith, f.lists, list_binary p op x y); names = omega (arith, f.names, name_binary p op x y) }

  pub binary_right : (op : BinaryOperator) (x y : ExprTree) → Fits limits (suc d) (valued p (n.Binary op x y)) → Fits limits d y
  binary_right op x y f = record { nodes = omega (arith, f.nodes, height_binary p op x y); lists = omega (arith, f.lists, list_binary p op x y); names = omega (arith, f.names, name_binary p op x y) }

  pub choice_first : (x y z : ExprTree) → Fits limits (suc d) (valued p (n.Choice x y z)) → Fits limits d x
  choice_first x y z f = record { nodes = omega (arith, f.nodes, height_choice p x y z); lists = omega (arith, f.lists, list_choice p x y z); names = omega (arith, f.names, name_choice p x y z) }

  pub choice_second : (x y z : ExprTree) → Fits limits (suc d) (valued p (n.Choice x y z)) → Fits limits d y
  choice_second x y z f = record { nodes = omega (arith, f.nodes, height_choice p x y z); lists = omega (arith, f.lists, list_choice p x y z); names = omega (arith, f.names, name_choice p x y z) }

  pub choice_third : (x y z : ExprTree) → Fits limits (suc d) (valued p (n.Choice x y z)) → Fits limits d z
  choice_third x y z f = record { nodes = omega (arith, f.nodes, height_choice p x y z); lists = omega (arith, f.lists, list_choice p x y z); names = omega (arith, f.names, name_choice p x y z) }

  pub name_short : (id : Identifier) (args : List GenericArgument) → Fits limits (suc d) (valued p (n.Name id args)) → length id.name ≤ limits.names
  name_short id args f = omega (arith, f.names, name_name p id args)

  pub member_short : (x : ExprTree) (id : Identifier) (args : List GenericArgument) → Fits limits (suc d) (valued p (n.Member x id args)) → length id.name ≤ limits.names
  member_short x id args f = omega (arith, f.names, name_member p x id args)

-- what has more room
pub more_room : (limits : Limits) (d : ℕ) (x : ExprTree) → Fits limits d x → Fits limits (suc d) x
more_room limits d x f = record { nodes = omega (arith, f.nodes); lists = f.lists; names = f.names }

-- the last of a list, and those before it
module _ (limits : Limits) (d : ℕ) (xs : List ExprTree) (x : ExprTree) (f : ListFits limits d (xs ++ x ∷ [])) where
  pub front_fits : ListFits limits d xs
  front_fits = record {
    nodes = omega (arith, f.nodes, greatest_last expr_height xs x);
    items = omega (arith, f.items, length-append xs (x ∷ []));
    lists = omega (arith, f.lists, greatest_last expr_list xs x);
    names = omega (arith, f.names, greatest_last expr_name xs x);
  }

  pub last_fits : Fits limits d x
  last_fits = record {
    nodes = omega (arith, f.nodes, greatest_last expr_height xs x);
    lists = omega (arith, f.lists, greatest_last expr_list xs x);
    names = omega (arith, f.names, greatest_last expr_name xs x);
  }

  pub last_in : length xs < limits.items
  last_in = omega (arith, f.items, length-append xs (x ∷ []))

-- what goes on to be within the limits is within them
pub chain_fits : {ts : List Lexed} {x y : ExprTree} {from to : ℕ} → ChainAt ts x y from to → (limits : Limits) (d : ℕ) → Fits limits (suc d) y → Fits limits (suc d) x
chain_fits ex.whole limits d f = f
chain_fits (ex.member {end = end} {x = x} {id = id} {args = args} s a c) limits d f = more_room limits d x (member_value limits d _ x id args (chain_fits c limits d f))
chain_fits (ex.index {x = x} {i = i} s e r c) limits d f = more_room limits d x (index_value limits d _ x i (chain_fits c limits d f))
chain_fits (ex.call {x = x} {args = args} s v c) limits d f = more_room limits d x (call_value limits d _ x args (chain_fits c limits d f))

pub binary_fits : {ts : List Lexed} {l from to : ℕ} {x y : ExprTree} → BinaryAt ts l x y from to → (limits : Limits) (d : ℕ) → Fits limits (suc d) y → Fits limits (suc d) x
binary_fits ex.operand limits d f = f
binary_fits (ex.operator {x = x} {z = z} {op = op} s q r b) limits d f = more_room limits d x (binary_left limits d _ op x z (binary_fits b limits d f))

pub more_fits : {ts : List Lexed} {xs ys : List ExprTree} {from to : ℕ} → MoreValuesAt ts xs ys from to → (limits : Limits) (d : ℕ) → ListFits limits d ys → ListFits limits d xs
more_fits ex.end limits d f = f
more_fits (ex.more {x = x} {list = xs} s e r) limits d f = front_fits limits d xs x (more_fits r limits d f)
