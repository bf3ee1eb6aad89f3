-- How many bytes an expression takes at least, as far as numbers, names, members, indices and operators go.
use Rattle.std.proofs.Common.{◌≡◌, ℕ, ◌+◌, List, rules}
use Rattle.slang_names.specs.declared.places.Place.{Place}
use Rattle.slang_names.specs.declared.numbers.Number.{Number}
use Rattle.slang_tree.specs.declared.types.Identifier.{Identifier}
use Rattle.slang_tree.specs.declared.types.Builtin.{Builtin}
use Rattle.slang_tree.specs.declared.types.GenericArgument.{GenericArgument}
use Rattle.slang_tree.specs.declared.expressions.UnaryOperator.{UnaryOperator}
use Rattle.slang_tree.specs.declared.expressions.BinaryOperator.{BinaryOperator}
use Rattle.slang_tree.specs.declared.expressions.ExprTree.{ExprTree, fold-ExprTree, the_lemmas}
use Rattle.slang_tree.specs.declared.expressions.ExprNode.{ExprNode, out-ExprNode, map-ExprNode, fold-ExprNode}
use Rattle.slang_tree.specs.declared.expressions.ExprNode.TheOpen.{ExprNode-F, ExprTree-F}
use Rattle.slang_tree.specs.declared.expressions.ExprNode.TheOpen as e
use Rattle.slang_tree.specs.declared.expressions.ExprNode.TheVariants as n
use Rattle.slang_grammar.specs.Expressions.{valued}
use Rattle.form_sizes.proofs.Lexemes.{least_number}

-- by what the parts take
abbrev pub node_weight : ExprNode-F ℕ ℕ → ℕ
node_weight (e.Number v) = least_number v.kind
node_weight (e.Name id args) = 1
node_weight (e.Member x id args) = x + 2
node_weight (e.Index x i) = x + 2 + i
node_weight (e.Binary op x y) = x + 1 + y
node_weight _ = 0

abbrev tree_weight : ExprTree-F ℕ ℕ → ℕ
tree_weight x = x.node

-- what is counted of an expression
abbrev pub weight : ExprTree → ℕ
weight = fold-ExprTree ℕ ℕ node_weight tree_weight

abbrev weight_node : ExprNode → ℕ
weight_node = fold-ExprNode ℕ ℕ node_weight tree_weight

-- of a node that is opened
abbrev pub weight_open : ExprNode-F ExprNode ExprTree → ℕ
weight_open x = node_weight (map-ExprNode ExprNode ExprTree ℕ ℕ weight_node weight x)

pub weight_out : (p : Place) (x : ExprNode) → weight (valued p x) ≡ weight_open (out-ExprNode x)
weight_out p x = search (rules, the_lemmas)

-- ---- at each node

pub weight_number : (p : Place) (v : Number) → weight (valued p (n.Number v)) ≡ least_number v.kind
weight_number p v = search (rules, the_lemmas)

pub weight_true : (p : Place) → weight (valued p n.True) ≡ 0
weight_true p = search (rules, the_lemmas)

pub weight_false : (p : Place) → weight (valued p n.False) ≡ 0
weight_false p = search (rules, the_lemmas)

pub weight_this_value : (p : Place) → weight (valued p n.ThisValue) ≡ 0
weight_this_value p = search (rules, the_lemmas)

pub weight_this_type : (p : Place) → weight (valued p n.ThisType) ≡ 0
weight_this_type p = search (rules, the_lemmas)

pub weight_name : (p : Place) (id : Identifier) (args : List GenericArgument) → weight (valued p (n.Name id args)) ≡ 1
weight_name p id args = search (rules, the_lemmas)

pub weight_construct : (p : Place) (b : Builtin) (args : List ExprTree) → weight (valued p (n.Construct b args)) ≡ 0
weight_construct p b args = search (rules, the_lemmas)

pub weight_paren : (p : Place) (x : ExprTree) → weight (valued p (n.Paren x)) ≡ 0
weight_paren p x = search (rules, the_lemmas)

pub weight_member : (p : Place) (x : ExprTree) (id : Identifier) (args : List GenericArgument) → weight (valued p (n.Member x id args)) ≡ weight x + 2
weight_member p x id args = search (rules, the_lemmas)

pub weight_index : (p : Place) (x i : ExprTree) → weight (valued p (n.Index x i)) ≡ weight x + 2 + weight i
weight_index p x i = search (rules, the_lemmas)

pub weight_call : (p : Place) (x : ExprTree) (args : List ExprTree) → weight (valued p (n.Call x args)) ≡ 0
weight_call p x args = search (rules, the_lemmas)

pub weight_unary : (p : Place) (op : UnaryOperator) (x : ExprTree) → weight (valued p (n.Unary op x)) ≡ 0
weight_unary p op x = search (rules, the_lemmas)

pub weight_cast : (p : Place) (b : Builtin) (x : ExprTree) → weight (valued p (n.Cast b x)) ≡ 0
weight_cast p b x = search (rules, the_lemmas)

pub weight_binary : (p : Place) (op : BinaryOperator) (x y : ExprTree) → weight (valued p (n.Binary op x y)) ≡ weight x + 1 + weight y
weight_binary p op x y = search (rules, the_lemmas)

pub weight_choice : (p : Place) (x y z : ExprTree) → weight (valued p (n.Choice x y z)) ≡ 0
weight_choice p x y z = search (rules, the_lemmas)
