-- Types: no node is too deep exactly where the nodes of the longest path and those around it are at most 64.
use Rattle.std.proofs.Common.{ℕ, ◌+◌, sym, subst}
use Rattle.slang_tree.specs.declared.types.TypeTree.{TypeTree, roll-TypeTree, map-TypeTree, ind-TypeTree, fold-roll-TypeTree}
use Rattle.slang_tree.specs.declared.types.TypeNode.{TypeNode, roll-TypeNode, map-TypeNode, fold-TypeNode, fold-roll-TypeNode}
use Rattle.slang_tree.specs.declared.types.GenericArgument.{GenericArgument, roll-GenericArgument, map-GenericArgument, ind-GenericArgument, fold-roll-GenericArgument}
use Rattle.slang_tree.specs.declared.types.GenericArgument.TheOpen.{GenericArgument-F, TypeNode-F, TypeTree-F}
use Rattle.slang_tree.specs.declared.types.GenericArgument.TheOpen as t
use Rattle.slang_tree.specs.Nesting.{Deep, deep_type, deep_type_node, deep_argument}
use Rattle.slang_tree.specs.Nesting as deep
use Rattle.slang_grammar.specs.Heights.{height, argument_height}
use Rattle.slang_grammar.specs.Heights as high
use Rattle.nesting_laws.proofs.Depths.{Part, Tree, part_tree, part_nothing, part_list, tree_node}

abbrev node_height : TypeNode → ℕ
node_height = fold-TypeNode ℕ ℕ ℕ high.argument_step high.type_step high.type_tree_step

abbrev OfArgument : GenericArgument → Type 0
OfArgument x = Part (argument_height x) (deep_argument x)

abbrev OfNode : TypeNode → Type 0
OfNode x = Part (node_height x) (deep_type_node x)

abbrev OfType : TypeTree → Type 0
OfType x = Tree (height x) (deep_type x)

abbrev Argument : Type 0
Argument = (x : GenericArgument) × OfArgument x

abbrev Node : Type 0
Node = (x : TypeNode) × OfNode x

abbrev Type_ : Type 0
Type_ = (x : TypeTree) × OfType x

abbrev argument_firsts : GenericArgument-F Argument Node Type_ → GenericArgument-F GenericArgument TypeNode TypeTree
argument_firsts y = map-GenericArgument Argument Node Type_ GenericArgument TypeNode TypeTree (λ e. e.0) (λ e. e.0) (λ e. e.0) y

abbrev node_firsts : TypeNode-F Argument Node Type_ → TypeNode-F GenericArgument TypeNode TypeTree
node_firsts y = map-TypeNode Argument Node Type_ GenericArgument TypeNode TypeTree (λ e. e.0) (λ e. e.0) (λ e. e.0) y

abbrev type_firsts : TypeTree-F Argument Node Type_ → TypeTree-F GenericArgument TypeNode TypeTree
type_firsts y = map-TypeTree Argument Node Type_ GenericArgument TypeNode TypeTree (λ e. e.0) (λ e. e.0) (λ e. e.0) y

abbrev argument_high : GenericArgument-F GenericArgument TypeNode TypeTree → ℕ
argument_high x = high.argument_step (map-GenericArgument GenericArgument TypeNode TypeTree ℕ ℕ ℕ argument_height node_height height x)

abbrev argument_deep : GenericArgument-F GenericArgument TypeNode TypeTree → Deep
argument_deep x = deep.argument_step (map-GenericArgument GenericArgument TypeNode TypeTree Deep Deep Deep deep_argument deep_type_node deep_type x)

abbrev node_high : TypeNode-F GenericArgument TypeNode TypeTree → ℕ
node_high x = high.type_step (map-TypeNode GenericArgument TypeNode TypeTree ℕ ℕ ℕ argument_height node_height height x)

abbrev node_deep : TypeNode-F GenericArgument TypeNode TypeTree → Deep
node_deep x = deep.type_step (map-TypeNode GenericArgument TypeNode TypeTree Deep Deep Deep deep_argument deep_type_node deep_type x)

of_argument : (y : GenericArgument-F Argument Node Type_) → Part (argument_high (argument_firsts y)) (argument_deep (argument_firsts y))
of_argument (t.Term x) = part_tree (height x.0) (deep_type x.0) x.1
of_argument (t.Number p v) = part_nothing

of_node : (y : TypeNode-F Argument Node Type_) → Part (node_high (node_firsts y)) (node_deep (node_firsts y))
of_node (t.Builtin w) = part_nothing
of_node t.ThisType = part_nothing
of_node (t.Named n args) = part_list argument_height deep_argument OfArgument (λ a p. p) args
of_node (t.Resource w x) = part_tree (height x.0) (deep_type x.0) x.1
of_node (t.Projection x n) = part_tree (height x.0) (deep_type x.0) x.1
of_node (t.Array x n) = part_tree (height x.0) (deep_type x.0) x.1

argument_step : (y : GenericArgument-F Argument Node Type_) → OfArgument (roll-GenericArgument (argument_firsts y))
argument_step y = let x = argument_firsts y in let r = roll-GenericArgument x in
    subst (λ h. Part h (deep_argument r)) (sym (fold-roll-GenericArgument ℕ ℕ ℕ high.argument_step high.type_step high.type_tree_step x))
    (subst (λ f. Part (argument_high x) f) (sym (fold-roll-GenericArgument Deep Deep Deep deep.argument_step deep.type_step deep.type_tree_step x)) (of_argument y))

node_step : (y : TypeNode-F Argument Node Type_) → OfNode (roll-TypeNode (node_firsts y))
node_step y = let x = node_firsts y in let r = roll-TypeNode x in
    subst (λ h. Part h (deep_type_node r)) (sym (fold-roll-TypeNode ℕ ℕ ℕ high.argument_step high.type_step high.type_tree_step x))
    (subst (λ f. Part (node_high x) f) (sym (fold-roll-TypeNode Deep Deep Deep deep.argument_step deep.type_step deep.type_tree_step x)) (of_node y))

type_step : (y : TypeTree-F Argument Node Type_) → OfType (roll-TypeTree (type_firsts y))
type_step y = let x = type_firsts y in let r = roll-TypeTree x in
    subst (λ h. Tree h (deep_type r)) (sym (fold-roll-TypeTree ℕ ℕ ℕ high.argument_step high.type_step high.type_tree_step x))
    (subst (λ f. Tree (node_height y.node.0 + 1) f) (sym (fold-roll-TypeTree Deep Deep Deep deep.argument_step deep.type_step deep.type_tree_step x))
    (tree_node y.place (node_height y.node.0) (deep_type_node y.node.0) y.node.1))

pub type_tells : (x : TypeTree) → OfType x
type_tells = ind-TypeTree OfArgument OfNode OfType (λ x y is. subst (λ z. OfArgument (roll-GenericArgument z)) is (argument_step y))
    (λ x y is. subst (λ z. OfNode (roll-TypeNode z)) is (node_step y)) (λ x y is. subst (λ z. OfType (roll-TypeTree z)) is (type_step y))

pub argument_tells : (x : GenericArgument) → OfArgument x
argument_tells = ind-GenericArgument OfArgument OfNode OfType (λ x y is. subst (λ z. OfArgument (roll-GenericArgument z)) is (argument_step y))
    (λ x y is. subst (λ z. OfNode (roll-TypeNode z)) is (node_step y)) (λ x y is. subst (λ z. OfType (roll-TypeTree z)) is (type_step y))
