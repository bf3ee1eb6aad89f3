-- The plans by which needs are told are the plans of types and expressions.
use Rattle.std.proofs.Common.{◌≡◌, List, [], ◌∷◌, map, refl, sym, ◌∙◌, ap, subst}
use Rattle.slang_names.specs.declared.places.Place.{Place}
use Rattle.slang_tree.specs.declared.types.GenericArgument.{GenericArgument, fold-GenericArgument}
use Rattle.slang_tree.specs.declared.types.TypeTree.{TypeTree, roll-TypeTree, map-TypeTree, ind-TypeTree, fold-roll-TypeTree}
use Rattle.slang_tree.specs.declared.types.TypeNode.{TypeNode, roll-TypeNode, map-TypeNode, fold-roll-TypeNode}
use Rattle.slang_tree.specs.declared.types.GenericArgument.TheOpen.{GenericArgument-F, TypeNode-F, TypeTree-F}
use Rattle.slang_tree.specs.declared.types.GenericArgument.TheOpen as t
use Rattle.slang_tree.specs.declared.expressions.ExprTree.{ExprTree, roll-ExprTree, map-ExprTree, ind-ExprTree, fold-roll-ExprTree}
use Rattle.slang_tree.specs.declared.expressions.ExprNode.{ExprNode, roll-ExprNode, map-ExprNode, fold-roll-ExprNode}
use Rattle.slang_tree.specs.declared.expressions.ExprNode.TheOpen.{ExprNode-F, ExprTree-F}
use Rattle.slang_tree.specs.declared.expressions.ExprNode.TheOpen as e
use Rattle.type_exprs.specs.TypePlans.{TypePlan, argument_step, type_step, type_tree_step, type_plan, type_node_plan}
use Rattle.type_exprs.specs.ExprPlans.{ExprPlan, expr_step, expr_tree_step, expr_plan, expr_node_plan}
use Rattle.type_exprs.specs.Needs.{NeededTypeNode, NeededType, no_argument, type_node_needs, type_tree_needs, needed_type, needed_type_node, NeededNode, NeededExpr, expr_node_needs, expr_tree_needs, needed_expr, needed_node}

two_alike : {A B D : Type 0} (f : A → B → D) (a b : A) (c d : B) → a ≡ b → c ≡ d → f a c ≡ f b d
two_alike f a b c d p q = ap (λ x. f x c) p ∙ ap (λ y. f b y) q

-- ---- expressions

abbrev Node : Type 0
Node = (x : ExprNode) × ((needed_node x).0 ≡ expr_node_plan x)

abbrev Expr : Type 0
Expr = (x : ExprTree) × ((needed_expr x).0 ≡ expr_plan x)

abbrev node_firsts : ExprNode-F Node Expr → ExprNode-F ExprNode ExprTree
node_firsts y = map-ExprNode Node Expr ExprNode ExprTree (λ e. e.0) (λ e. e.0) y

abbrev expr_firsts : ExprTree-F Node Expr → ExprTree-F ExprNode ExprTree
expr_firsts y = map-ExprTree Node Expr ExprNode ExprTree (λ e. e.0) (λ e. e.0) y

abbrev needed_parts : ExprNode-F Node Expr → ExprNode-F (Place → ExprPlan) ExprPlan
needed_parts y = map-ExprNode NeededNode NeededExpr (Place → ExprPlan) ExprPlan (λ z. z.0) (λ z. z.0) (map-ExprNode ExprNode ExprTree NeededNode NeededExpr needed_node needed_expr (node_firsts y))

abbrev planned_parts : ExprNode-F Node Expr → ExprNode-F (Place → ExprPlan) ExprPlan
planned_parts y = map-ExprNode ExprNode ExprTree (Place → ExprPlan) ExprPlan expr_node_plan expr_plan (node_firsts y)

all_alike : (xs : List Expr) → map (λ z. z.0) (map needed_expr (map (λ e. e.0) xs)) ≡ map expr_plan (map (λ e. e.0) xs)
all_alike [] = refl
all_alike (x ∷ xs) = two_alike (λ p ps. p ∷ ps) (needed_expr x.0).0 (expr_plan x.0) (map (λ z. z.0) (map needed_expr (map (λ e. e.0) xs))) (map expr_plan (map (λ e. e.0) xs)) x.1 (all_alike xs)

alike : (y : ExprNode-F Node Expr) → needed_parts y ≡ planned_parts y
alike (e.Number n) = refl
alike e.True = refl
alike e.False = refl
alike e.ThisValue = refl
alike e.ThisType = refl
alike (e.Name n args) = refl
alike (e.Construct w xs) = ap (λ ps. e.Construct w ps) (all_alike xs)
alike (e.Paren x) = ap (λ p. e.Paren p) x.1
alike (e.Member x n args) = ap (λ p. e.Member p n args) x.1
alike (e.Index x y) = two_alike (λ p q. e.Index p q) (needed_expr x.0).0 (expr_plan x.0) (needed_expr y.0).0 (expr_plan y.0) x.1 y.1
alike (e.Call f xs) = two_alike (λ p ps. e.Call p ps) (needed_expr f.0).0 (expr_plan f.0) (map (λ z. z.0) (map needed_expr (map (λ e. e.0) xs))) (map expr_plan (map (λ e. e.0) xs)) f.1 (all_alike xs)
alike (e.Unary op x) = ap (λ p. e.Unary op p) x.1
alike (e.Cast w x) = ap (λ p. e.Cast w p) x.1
alike (e.Binary op x y) = two_alike (λ p q. e.Binary op p q) (needed_expr x.0).0 (expr_plan x.0) (needed_expr y.0).0 (expr_plan y.0) x.1 y.1
alike (e.Choice x y z) = two_alike (λ p q. e.Choice p q (needed_expr z.0).0) (needed_expr x.0).0 (expr_plan x.0) (needed_expr y.0).0 (expr_plan y.0) x.1 y.1
    ∙ ap (λ r. e.Choice (expr_plan x.0) (expr_plan y.0) r) z.1

node_planned : (y : ExprNode-F Node Expr) → (needed_node (roll-ExprNode (node_firsts y))).0 ≡ expr_node_plan (roll-ExprNode (node_firsts y))
node_planned y = ap (λ z. z.0) (fold-roll-ExprNode NeededNode NeededExpr expr_node_needs expr_tree_needs (node_firsts y))
    ∙ (ap (λ x. expr_step x) (alike y) ∙ sym (fold-roll-ExprNode (Place → ExprPlan) ExprPlan expr_step expr_tree_step (node_firsts y)))

tree_planned : (y : ExprTree-F Node Expr) → (needed_expr (roll-ExprTree (expr_firsts y))).0 ≡ expr_plan (roll-ExprTree (expr_firsts y))
tree_planned y = ap (λ z. z.0) (fold-roll-ExprTree NeededNode NeededExpr expr_node_needs expr_tree_needs (expr_firsts y))
    ∙ (ap (λ f. f y.place) y.node.1 ∙ sym (fold-roll-ExprTree (Place → ExprPlan) ExprPlan expr_step expr_tree_step (expr_firsts y)))

pub expr_planned : (x : ExprTree) → (needed_expr x).0 ≡ expr_plan x
expr_planned = ind-ExprTree (λ x. (needed_node x).0 ≡ expr_node_plan x) (λ x. (needed_expr x).0 ≡ expr_plan x)
    (λ x y is. subst (λ z. (needed_node (roll-ExprNode z)).0 ≡ expr_node_plan (roll-ExprNode z)) is (node_planned y))
    (λ x y is. subst (λ z. (needed_expr (roll-ExprTree z)).0 ≡ expr_plan (roll-ExprTree z)) is (tree_planned y))

-- ---- types

abbrev Argument : Type 0
Argument = (x : GenericArgument) × Unit {0}

abbrev TypeNode_ : Type 0
TypeNode_ = (x : TypeNode) × ((needed_type_node x).0 ≡ type_node_plan x)

abbrev Type_ : Type 0
Type_ = (x : TypeTree) × ((needed_type x).0 ≡ type_plan x)

abbrev type_node_firsts : TypeNode-F Argument TypeNode_ Type_ → TypeNode-F GenericArgument TypeNode TypeTree
type_node_firsts y = map-TypeNode Argument TypeNode_ Type_ GenericArgument TypeNode TypeTree (λ e. e.0) (λ e. e.0) (λ e. e.0) y

abbrev type_firsts : TypeTree-F Argument TypeNode_ Type_ → TypeTree-F GenericArgument TypeNode TypeTree
type_firsts y = map-TypeTree Argument TypeNode_ Type_ GenericArgument TypeNode TypeTree (λ e. e.0) (λ e. e.0) (λ e. e.0) y

abbrev needed_argument : GenericArgument → Unit {0}
needed_argument = fold-GenericArgument (Unit {0}) NeededTypeNode NeededType no_argument type_node_needs type_tree_needs

abbrev planned_argument : GenericArgument → Unit {0}
planned_argument = fold-GenericArgument (Unit {0}) (Place → TypePlan) TypePlan argument_step type_step type_tree_step

abbrev needed_type_parts : TypeNode-F Argument TypeNode_ Type_ → TypeNode-F (Unit {0}) (Place → TypePlan) TypePlan
needed_type_parts y = map-TypeNode (Unit {0}) NeededTypeNode NeededType (Unit {0}) (Place → TypePlan) TypePlan (λ z. z) (λ z. z.0) (λ z. z.0)
    (map-TypeNode GenericArgument TypeNode TypeTree (Unit {0}) NeededTypeNode NeededType needed_argument needed_type_node needed_type (type_node_firsts y))

abbrev planned_type_parts : TypeNode-F Argument TypeNode_ Type_ → TypeNode-F (Unit {0}) (Place → TypePlan) TypePlan
planned_type_parts y = map-TypeNode GenericArgument TypeNode TypeTree (Unit {0}) (Place → TypePlan) TypePlan planned_argument type_node_plan type_plan (type_node_firsts y)

arguments_alike : (xs : List Argument) → map (λ z. z) (map needed_argument (map (λ e. e.0) xs)) ≡ map planned_argument (map (λ e. e.0) xs)
arguments_alike [] = refl
arguments_alike (x ∷ xs) = ap (λ ps. tt ∷ ps) (arguments_alike xs)

types_alike : (y : TypeNode-F Argument TypeNode_ Type_) → needed_type_parts y ≡ planned_type_parts y
types_alike (t.Builtin w) = refl
types_alike t.ThisType = refl
types_alike (t.Named n args) = ap (λ ps. t.Named n ps) (arguments_alike args)
types_alike (t.Resource r x) = ap (λ p. t.Resource r p) x.1
types_alike (t.Projection x n) = ap (λ p. t.Projection p n) x.1
types_alike (t.Array x n) = ap (λ p. t.Array p n) x.1

type_node_planned : (y : TypeNode-F Argument TypeNode_ Type_) → (needed_type_node (roll-TypeNode (type_node_firsts y))).0 ≡ type_node_plan (roll-TypeNode (type_node_firsts y))
type_node_planned y = ap (λ z. z.0) (fold-roll-TypeNode (Unit {0}) NeededTypeNode NeededType no_argument type_node_needs type_tree_needs (type_node_firsts y))
    ∙ (ap (λ x. type_step x) (types_alike y) ∙ sym (fold-roll-TypeNode (Unit {0}) (Place → TypePlan) TypePlan argument_step type_step type_tree_step (type_node_firsts y)))

type_tree_planned : (y : TypeTree-F Argument TypeNode_ Type_) → (needed_type (roll-TypeTree (type_firsts y))).0 ≡ type_plan (roll-TypeTree (type_firsts y))
type_tree_planned y = ap (λ z. z.0) (fold-roll-TypeTree (Unit {0}) NeededTypeNode NeededType no_argument type_node_needs type_tree_needs (type_firsts y))
    ∙ (ap (λ f. f y.place) y.node.1 ∙ sym (fold-roll-TypeTree (Unit {0}) (Place → TypePlan) TypePlan argument_step type_step type_tree_step (type_firsts y)))

pub type_planned : (x : TypeTree) → (needed_type x).0 ≡ type_plan x
type_planned = ind-TypeTree (λ x. Unit {0}) (λ x. (needed_type_node x).0 ≡ type_node_plan x) (λ x. (needed_type x).0 ≡ type_plan x) (λ x y is. tt)
    (λ x y is. subst (λ z. (needed_type_node (roll-TypeNode z)).0 ≡ type_node_plan (roll-TypeNode z)) is (type_node_planned y))
    (λ x y is. subst (λ z. (needed_type (roll-TypeTree z)).0 ≡ type_plan (roll-TypeTree z)) is (type_tree_planned y))
