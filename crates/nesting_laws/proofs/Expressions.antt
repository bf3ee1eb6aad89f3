-- The same of expressions.
use Rattle.std.proofs.Common.{ℕ, ◌+◌, max, List, map, sym, subst}
use Rattle.slang_tree.specs.declared.types.GenericArgument.{GenericArgument}
use Rattle.slang_tree.specs.declared.expressions.ExprTree.{ExprTree, roll-ExprTree, map-ExprTree, ind-ExprTree, fold-roll-ExprTree}
use Rattle.slang_tree.specs.declared.expressions.ExprNode.{ExprNode, roll-ExprNode, map-ExprNode, fold-ExprNode, fold-roll-ExprNode}
use Rattle.slang_tree.specs.declared.expressions.ExprNode.TheOpen.{ExprNode-F, ExprTree-F}
use Rattle.slang_tree.specs.declared.expressions.ExprNode.TheOpen as e
use Rattle.slang_tree.specs.Nesting.{Deep, before, first_of, deep_argument, deep_expr, deep_expr_node}
use Rattle.slang_tree.specs.Nesting as deep
use Rattle.slang_grammar.specs.Heights.{greatest, argument_height}
use Rattle.expression_grammar.specs.Heights.{expr_height}
use Rattle.expression_grammar.specs.Heights as high
use Rattle.nesting_laws.proofs.Depths.{Part, Tree, part_tree, part_nothing, part_before, part_all, part_list, tree_node}
use Rattle.nesting_laws.proofs.Types.{argument_tells}

abbrev node_height : ExprNode → ℕ
node_height = fold-ExprNode ℕ ℕ high.expr_step high.expr_tree_step

abbrev OfNode : ExprNode → Type 0
OfNode x = Part (node_height x) (deep_expr_node x)

abbrev OfExpr : ExprTree → Type 0
OfExpr x = Tree (expr_height x) (deep_expr x)

abbrev Node : Type 0
Node = (x : ExprNode) × OfNode x

abbrev Expr : Type 0
Expr = (x : ExprTree) × OfExpr x

abbrev node_firsts : ExprNode-F Node Expr → ExprNode-F ExprNode ExprTree
node_firsts y = map-ExprNode Node Expr ExprNode ExprTree (λ e. e.0) (λ e. e.0) y

abbrev expr_firsts : ExprTree-F Node Expr → ExprTree-F ExprNode ExprTree
expr_firsts y = map-ExprTree Node Expr ExprNode ExprTree (λ e. e.0) (λ e. e.0) y

abbrev node_high : ExprNode-F ExprNode ExprTree → ℕ
node_high x = high.expr_step (map-ExprNode ExprNode ExprTree ℕ ℕ node_height expr_height x)

abbrev node_deep : ExprNode-F ExprNode ExprTree → Deep
node_deep x = deep.expr_step (map-ExprNode ExprNode ExprTree Deep Deep deep_expr_node deep_expr x)

one : (x : Expr) → Part (expr_height x.0) (deep_expr x.0)
one x = part_tree (expr_height x.0) (deep_expr x.0) x.1

given : (args : List GenericArgument) → Part (greatest (map argument_height args)) (first_of (map deep_argument args))
given args = part_all argument_height deep_argument argument_tells args

abbrev trees : List Expr → List ExprTree
trees xs = map (λ e. e.0) xs

many : (xs : List Expr) → Part (greatest (map expr_height (trees xs))) (first_of (map deep_expr (trees xs)))
many xs = part_list expr_height deep_expr OfExpr (λ a p. part_tree (expr_height a) (deep_expr a) p) xs

two : (x y : Expr) → Part (max (expr_height x.0) (expr_height y.0)) (before (deep_expr x.0) (deep_expr y.0))
two x y = part_before (expr_height x.0) (expr_height y.0) (deep_expr x.0) (deep_expr y.0) (one x) (one y)

of_node : (y : ExprNode-F Node Expr) → Part (node_high (node_firsts y)) (node_deep (node_firsts y))
of_node (e.Number n) = part_nothing
of_node e.True = part_nothing
of_node e.False = part_nothing
of_node e.ThisValue = part_nothing
of_node e.ThisType = part_nothing
of_node (e.Name n args) = given args
of_node (e.Construct w args) = many args
of_node (e.Paren x) = one x
of_node (e.Member x n args) = part_before (expr_height x.0) (greatest (map argument_height args)) (deep_expr x.0) (first_of (map deep_argument args)) (one x) (given args)
of_node (e.Index x y) = two x y
of_node (e.Call f args) = part_before (expr_height f.0) (greatest (map expr_height (trees args))) (deep_expr f.0) (first_of (map deep_expr (trees args))) (one f) (many args)
of_node (e.Unary o x) = one x
of_node (e.Cast w x) = one x
of_node (e.Binary o x y) = two x y
of_node (e.Choice x y z) = part_before (expr_height x.0) (max (expr_height y.0) (expr_height z.0)) (deep_expr x.0) (before (deep_expr y.0) (deep_expr z.0)) (one x) (two y z)

node_step : (y : ExprNode-F Node Expr) → OfNode (roll-ExprNode (node_firsts y))
node_step y = let x = node_firsts y in let r = roll-ExprNode x in
    subst (λ h. Part h (deep_expr_node r)) (sym (fold-roll-ExprNode ℕ ℕ high.expr_step high.expr_tree_step x))
    (subst (λ f. Part (node_high x) f) (sym (fold-roll-ExprNode Deep Deep deep.expr_step deep.expr_tree_step x)) (of_node y))

expr_step : (y : ExprTree-F Node Expr) → OfExpr (roll-ExprTree (expr_firsts y))
expr_step y = let x = expr_firsts y in let r = roll-ExprTree x in
    subst (λ h. Tree h (deep_expr r)) (sym (fold-roll-ExprTree ℕ ℕ high.expr_step high.expr_tree_step x))
    (subst (λ f. Tree (node_height y.node.0 + 1) f) (sym (fold-roll-ExprTree Deep Deep deep.expr_step deep.expr_tree_step x))
    (tree_node y.place (node_height y.node.0) (deep_expr_node y.node.0) y.node.1))

pub expr_tells : (x : ExprTree) → OfExpr x
expr_tells = ind-ExprTree OfNode OfExpr (λ x y is. subst (λ z. OfNode (roll-ExprNode z)) is (node_step y)) (λ x y is. subst (λ z. OfExpr (roll-ExprTree z)) is (expr_step y))
