-- How long the lists and the names of the nodes of expressions are.
use Rattle.std.proofs.Common.{◌≡◌, ℕ, ◌<◌, max, List, [], ◌∷◌, ◌++◌, length, map, ◌∙◌, ap, arith, rules}
use Rattle.std.proofs.lemmas.List.{length-map}
use Rattle.slang_names.specs.declared.places.Place.{Place}
use Rattle.slang_tree.specs.declared.types.Identifier.{Identifier}
use Rattle.slang_tree.specs.declared.types.Builtin.{Builtin}
use Rattle.slang_tree.specs.declared.types.GenericArgument.{GenericArgument}
use Rattle.slang_tree.specs.declared.expressions.UnaryOperator.{UnaryOperator}
use Rattle.slang_tree.specs.declared.expressions.BinaryOperator.{BinaryOperator}
use Rattle.slang_tree.specs.declared.expressions.ExprTree.{ExprTree, the_lemmas}
use Rattle.slang_tree.specs.declared.expressions.ExprNode.TheVariants as n
use Rattle.slang_grammar.specs.Expressions.{valued}
use Rattle.slang_grammar.specs.Heights.{greatest}
use Rattle.slang_grammar.specs.Sizes.{argument_list, argument_name}
use Rattle.expression_grammar.specs.Heights.{expr_height}
use Rattle.expression_grammar.specs.Sizes.{expr_list, expr_name}

-- each expression has a node
pub positive : (x : ExprTree) → 0 < expr_height x
positive x = search (rules, the_lemmas, arith)

pub list_name : (p : Place) (id : Identifier) (args : List GenericArgument) → expr_list (valued p (n.Name id args)) ≡ max (length args) (greatest (map argument_list args))
list_name p id args = search (rules, the_lemmas)

pub name_name : (p : Place) (id : Identifier) (args : List GenericArgument) → expr_name (valued p (n.Name id args)) ≡ max (length id.name) (greatest (map argument_name args))
name_name p id args = search (rules, the_lemmas)

pub list_construct : (p : Place) (b : Builtin) (args : List ExprTree) → expr_list (valued p (n.Construct b args)) ≡ max (length args) (greatest (map expr_list args))
list_construct p b args = search (rules, the_lemmas, length-map)

pub name_construct : (p : Place) (b : Builtin) (args : List ExprTree) → expr_name (valued p (n.Construct b args)) ≡ greatest (map expr_name args)
name_construct p b args = search (rules, the_lemmas)

pub list_paren : (p : Place) (x : ExprTree) → expr_list (valued p (n.Paren x)) ≡ expr_list x
list_paren p x = search (rules, the_lemmas)

pub name_paren : (p : Place) (x : ExprTree) → expr_name (valued p (n.Paren x)) ≡ expr_name x
name_paren p x = search (rules, the_lemmas)

pub list_member : (p : Place) (x : ExprTree) (id : Identifier) (args : List GenericArgument) → expr_list (valued p (n.Member x id args)) ≡ max (expr_list x) (max (length args) (greatest (map argument_list args)))
list_member p x id args = search (rules, the_lemmas)

pub name_member : (p : Place) (x : ExprTree) (id : Identifier) (args : List GenericArgument) → expr_name (valued p (n.Member x id args)) ≡ max (expr_name x) (max (length id.name) (greatest (map argument_name args)))
name_member p x id args = search (rules, the_lemmas)

pub list_index : (p : Place) (x i : ExprTree) → expr_list (valued p (n.Index x i)) ≡ max (expr_list x) (expr_list i)
list_index p x i = search (rules, the_lemmas)

pub name_index : (p : Place) (x i : ExprTree) → expr_name (valued p (n.Index x i)) ≡ max (expr_name x) (expr_name i)
name_index p x i = search (rules, the_lemmas)

pub list_call : (p : Place) (x : ExprTree) (args : List ExprTree) → expr_list (valued p (n.Call x args)) ≡ max (expr_list x) (max (length args) (greatest (map expr_list args)))
list_call p x args = search (rules, the_lemmas, length-map)

pub name_call : (p : Place) (x : ExprTree) (args : List ExprTree) → expr_name (valued p (n.Call x args)) ≡ max (expr_name x) (greatest (map expr_name args))
name_call p x args = search (rules, the_lemmas)

pub list_unary : (p : Place) (op : UnaryOperator) (x : ExprTree) → expr_list (valued p (n.Unary op x)) ≡ expr_list x
list_unary p op x = search (rules, the_lemmas)

pub name_unary : (p : Place) (op : UnaryOperator) (x : ExprTree) → expr_name (valued p (n.Unary op x)) ≡ expr_name x
name_unary p op x = search (rules, the_lemmas)

pub list_cast : (p : Place) (b : Builtin) (x : ExprTree) → expr_list (valued p (n.Cast b x)) ≡ expr_list x
list_cast p b x = search (rules, the_lemmas)

pub name_cast : (p : Place) (b : Builtin) (x : ExprTree) → expr_name (valued p (n.Cast b x)) ≡ expr_name x
name_cast p b x = search (rules, the_lemmas)

pub list_binary : (p : Place) (op : BinaryOperator) (x y : ExprTree) → expr_list (valued p (n.Binary op x y)) ≡ max (expr_list x) (expr_list y)
list_binary p op x y = search (rules, the_lemmas)

pub name_binary : (p : Place) (op : BinaryOperator) (x y : ExprTree) → expr_name (valued p (n.Binary op x y)) ≡ max (expr_name x) (expr_name y)
name_binary p op x y = search (rules, the_lemmas)

pub list_choice : (p : Place) (x y z : ExprTree) → expr_list (valued p (n.Choice x y z)) ≡ max (expr_list x) (max (expr_list y) (expr_list z))
list_choice p x y z = search (rules, the_lemmas)

pub name_choice : (p : Place) (x y z : ExprTree) → expr_name (valued p (n.Choice x y z)) ≡ max (expr_name x) (max (expr_name y) (expr_name z))
name_choice p x y z = search (rules, the_lemmas)

-- one more item
pub greatest_last : (f : ExprTree → ℕ) (xs : List ExprTree) (x : ExprTree) → greatest (map f (xs ++ x ∷ [])) ≡ max (greatest (map f xs)) (f x)
greatest_last f [] x = omega arith
greatest_last f (y ∷ ys) x = ap (max (f y)) (greatest_last f ys x) ∙ max_assoc (f y) (greatest (map f ys)) (f x)
  where
    max_assoc : (a b c : ℕ) → max a (max b c) ≡ max (max a b) c
    max_assoc a b c = omega arith
