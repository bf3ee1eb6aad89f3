-- The heights of the nodes of types.
use Rattle.std.proofs.Common.{◌≡◌, ℕ, ◌+◌, max, List, [], ◌∷◌, ◌++◌, map, ◌∙◌, ap, arith, rules}
use Rattle.slang_names.specs.declared.places.Place.{Place}
use Rattle.slang_names.specs.declared.numbers.Number.{Number}
use Rattle.slang_tree.specs.declared.types.Identifier.{Identifier}
use Rattle.slang_tree.specs.declared.types.Builtin.{Builtin}
use Rattle.slang_tree.specs.declared.types.Resource.{Resource}
use Rattle.slang_tree.specs.declared.types.Term.{Term}
use Rattle.slang_tree.specs.declared.types.TypeTree.{TypeTree, the_lemmas}
use Rattle.slang_tree.specs.declared.types.TypeNode.TheVariants as n
use Rattle.slang_tree.specs.declared.types.GenericArgument.{GenericArgument}
use Rattle.slang_tree.specs.declared.types.GenericArgument.TheVariants as g
use Rattle.slang_grammar.specs.Types.{typed}
use Rattle.slang_grammar.specs.Heights.{greatest, height, argument_height}

pub height_builtin : (p : Place) (b : Builtin) → height (typed p (n.Builtin b)) ≡ 1
height_builtin p b = search (rules, the_lemmas)

pub height_this : (p : Place) → height (typed p n.ThisType) ≡ 1
height_this p = search (rules, the_lemmas)

pub height_named : (p : Place) (id : Identifier) (args : List GenericArgument) → height (typed p (n.Named id args)) ≡ greatest (map argument_height args) + 1
height_named p id args = search (rules, the_lemmas)

pub height_resource : (p : Place) (r : Resource) (x : TypeTree) → height (typed p (n.Resource r x)) ≡ height x + 1
height_resource p r x = search (rules, the_lemmas)

pub height_projection : (p : Place) (x : TypeTree) (id : Identifier) → height (typed p (n.Projection x id)) ≡ height x + 1
height_projection p x id = search (rules, the_lemmas)

pub height_array : (p : Place) (x : TypeTree) (l : Term) → height (typed p (n.Array x l)) ≡ height x + 1
height_array p x l = search (rules, the_lemmas)

pub height_term : (x : TypeTree) → argument_height (g.Term x) ≡ height x
height_term x = search (rules, the_lemmas)

pub height_number : (p : Place) (v : Number) → argument_height (g.Number p v) ≡ 0
height_number p v = search (rules, the_lemmas)

-- one more item
pub greatest_more : (xs : List GenericArgument) (x : GenericArgument) → greatest (map argument_height (xs ++ x ∷ [])) ≡ max (greatest (map argument_height xs)) (argument_height x)
greatest_more [] x = omega arith
greatest_more (y ∷ ys) x = ap (max (argument_height y)) (greatest_more ys x) ∙ max_assoc (argument_height y) (greatest (map argument_height ys)) (argument_height x)
  where
    max_assoc : (a b c : ℕ) → max a (max b c) ≡ max (max a b) c
    max_assoc a b c = omega arith
