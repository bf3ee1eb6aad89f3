-- The heights of the nodes of expressions.
use Rattle.std.proofs.Common.{◌≡◌, ℕ, ◌+◌, max, List, [], ◌∷◌, ◌++◌, map, ◌∙◌, ap, arith, rules}
use Rattle.slang_names.specs.declared.places.Place.{Place}
use Rattle.slang_names.specs.declared.numbers.Number.{Number}
use Rattle.slang_tree.specs.declared.types.Identifier.{Identifier}
use Rattle.slang_tree.specs.declared.types.Builtin.{Builtin}
use Rattle.slang_tree.specs.declared.types.GenericArgument.{GenericArgument}
use Rattle.slang_tree.specs.declared.expressions.UnaryOperator.{UnaryOperator}
use Rattle.slang_tree.specs.declared.expressions.BinaryOperator.{BinaryOperator}
use Rattle.slang_tree.specs.declared.expressions.ExprTree.{ExprTree, the_lemmas}
use Rattle.slang_tree.specs.declared.expressions.ExprNode.TheVariants as n
use Rattle.slang_grammar.specs.Expressions.{valued}
use Rattle.slang_grammar.specs.Heights.{greatest, argument_height}
use Rattle.expression_grammar.specs.Heights.{expr_height}

pub height_value : (p : Place) (v : Number) → expr_height (valued p (n.Number v)) ≡ 1
height_value p v = search (rules, the_lemmas)

pub height_true : (p : Place) → expr_height (valued p n.True) ≡ 1
height_true p = search (rules, the_lemmas)

pub height_false : (p : Place) → expr_height (valued p n.False) ≡ 1
height_false p = search (rules, the_lemmas)

pub height_this_value : (p : Place) → expr_height (valued p n.ThisValue) ≡ 1
height_this_value p = search (rules, the_lemmas)

pub height_this_type : (p : Place) → expr_height (valued p n.ThisType) ≡ 1
height_this_type p = search (rules, the_lemmas)

pub height_name : (p : Place) (id : Identifier) (args : List GenericArgument) → expr_height (valued p (n.Name id args)) ≡ greatest (map argument_height args) + 1
height_name p id args = search (rules, the_lemmas)

pub height_construct : (p : Place) (b : Builtin) (args : List ExprTree) → expr_height (valued p (n.Construct b args)) ≡ greatest (map expr_height args) + 1
height_construct p b args = search (rules, the_lemmas)

pub height_paren : (p : Place) (x : ExprTree) → expr_height (valued p (n.Paren x)) ≡ expr_height x + 1
height_paren p x = search (rules, the_lemmas)

pub height_member : (p : Place) (x : ExprTree) (id : Identifier) (args : List GenericArgument) →
    expr_height (valued p (n.Member x id args)) ≡ max (expr_height x) (greatest (map argument_height args)) + 1
height_member p x id args = search (rules, the_lemmas)

pub height_index : (p : Place) (x i : ExprTree) → expr_height (valued p (n.Index x i)) ≡ max (expr_height x) (expr_height i) + 1
height_index p x i = search (rules, the_lemmas)

pub height_call : (p : Place) (x : ExprTree) (args : List ExprTree) → expr_height (valued p (n.Call x args)) ≡ max (expr_height x) (greatest (map expr_height args)) + 1
height_call p x args = search (rules, the_lemmas)

pub height_unary : (p : Place) (op : UnaryOperator) (x : ExprTree) → expr_height (valued p (n.Unary op x)) ≡ expr_height x + 1
height_unary p op x = search (rules, the_lemmas)

pub height_cast : (p : Place) (b : Builtin) (x : ExprTree) → expr_height (valued p (n.Cast b x)) ≡ expr_height x + 1
height_cast p b x = search (rules, the_lemmas)

pub height_binary : (p : Place) (op : BinaryOperator) (x y : ExprTree) → expr_height (valued p (n.Binary op x y)) ≡ max (expr_height x) (expr_height y) + 1
height_binary p op x y = search (rules, the_lemmas)

pub height_choice : (p : Place) (x y z : ExprTree) → expr_height (valued p (n.Choice x y z)) ≡ max (expr_height x) (max (expr_height y) (expr_height z)) + 1
height_choice p x y z = search (rules, the_lemmas)

-- one more item
pub greatest_longer : (xs : List ExprTree) (x : ExprTree) → greatest (map expr_height (xs ++ x ∷ [])) ≡ max (greatest (map expr_height xs)) (expr_height x)
greatest_longer [] x = omega arith
greatest_longer (y ∷ ys) x = ap (max (expr_height y)) (greatest_longer ys x) ∙ max_assoc (expr_height y) (greatest (map expr_height ys)) (expr_height x)
  where
    max_assoc : (a b c : ℕ) → max a (max b c) ≡ max (max a b) c
    max_assoc a b c = omega arith
