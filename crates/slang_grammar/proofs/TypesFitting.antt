-- What of a type within the limits is within them too.
use Rattle.std.proofs.Common.{◌≡◌, ℕ, suc, ◌<◌, ◌≤◌, max, List, [], ◌∷◌, ◌++◌, length, map, length-append, ◌∙◌, ap, arith, rules}
use Rattle.std.proofs.lemmas.List.{length-map}
use Rattle.slang_names.specs.declared.places.Place.{Place}
use Rattle.slang_tree.specs.declared.types.Identifier.{Identifier}
use Rattle.slang_tree.specs.declared.types.Resource.{Resource}
use Rattle.slang_tree.specs.declared.types.Term.{Term}
use Rattle.slang_tree.specs.declared.types.TypeTree.{TypeTree, the_lemmas}
use Rattle.slang_tree.specs.declared.types.TypeNode.TheVariants as n
use Rattle.slang_tree.specs.declared.types.GenericArgument.{GenericArgument}
use Rattle.slang_tree.specs.declared.types.GenericArgument.TheVariants as g
use Rattle.slang_reading.specs.Lexed.{Lexed}
use Rattle.slang_grammar.specs.Types as t
use Rattle.slang_grammar.specs.Types.{typed, ProjectionsAt, MoreArgumentsAt}
use Rattle.slang_grammar.specs.Descent.{Limits}
use Rattle.slang_grammar.specs.Heights.{greatest, height, argument_height}
use Rattle.slang_grammar.specs.Sizes.{longest_list, argument_list, term_name, longest_name, argument_name, TypeFits, ArgumentsFit}
use Rattle.slang_grammar.proofs.Heights.{height_named, height_resource, height_projection, height_array, height_term}

-- each type has a node
pub type_positive : (x : TypeTree) → 0 < height x
type_positive x = search (rules, the_lemmas, arith)

list_named : (p : Place) (id : Identifier) (args : List GenericArgument) → longest_list (typed p (n.Named id args)) ≡ max (length args) (greatest (map argument_list args))
list_named p id args = search (rules, the_lemmas, length-map)

name_named : (p : Place) (id : Identifier) (args : List GenericArgument) → longest_name (typed p (n.Named id args)) ≡ max (length id.name) (greatest (map argument_name args))
name_named p id args = search (rules, the_lemmas)

list_resource : (p : Place) (r : Resource) (x : TypeTree) → longest_list (typed p (n.Resource r x)) ≡ longest_list x
list_resource p r x = search (rules, the_lemmas)

name_resource : (p : Place) (r : Resource) (x : TypeTree) → longest_name (typed p (n.Resource r x)) ≡ longest_name x
name_resource p r x = search (rules, the_lemmas)

list_projection : (p : Place) (x : TypeTree) (id : Identifier) → longest_list (typed p (n.Projection x id)) ≡ longest_list x
list_projection p x id = search (rules, the_lemmas)

name_projection : (p : Place) (x : TypeTree) (id : Identifier) → longest_name (typed p (n.Projection x id)) ≡ max (longest_name x) (length id.name)
name_projection p x id = search (rules, the_lemmas)

list_array : (p : Place) (x : TypeTree) (l : Term) → longest_list (typed p (n.Array x l)) ≡ longest_list x
list_array p x l = search (rules, the_lemmas)

name_array : (p : Place) (x : TypeTree) (l : Term) → longest_name (typed p (n.Array x l)) ≡ max (longest_name x) (term_name l)
name_array p x l = search (rules, the_lemmas)

list_term : (x : TypeTree) → argument_list (g.Term x) ≡ longest_list x
list_term x = search (rules, the_lemmas)

name_term : (x : TypeTree) → argument_name (g.Term x) ≡ longest_name x
name_term x = search (rules, the_lemmas)

-- one more item
pub greatest_last : {A : Type 0} (f : A → ℕ) (xs : List A) (x : A) → greatest (map f (xs ++ x ∷ [])) ≡ max (greatest (map f xs)) (f x)
greatest_last f [] x = omega arith
greatest_last f (y ∷ ys) x = ap (max (f y)) (greatest_last f ys x) ∙ max_assoc (f y) (greatest (map f ys)) (f x)
  where
    max_assoc : (a b c : ℕ) → max a (max b c) ≡ max (max a b) c
    max_assoc a b c = omega arith

module _ (limits : Limits) (p : Place) where
  pub named_arguments : (d : ℕ) (id : Identifier) (args : List GenericArgument) → TypeFits limits (suc d) (typed p (n.Named id args)) → ArgumentsFit limits d args
  named_arguments d id args f = record {
    nodes = omega (arith, f.nodes, height_named p id args);
    items = omega (arith, f.lists, list_named p id args);
    lists = omega (arith, f.lists, list_named p id args);
    names = omega (arith, f.names, name_named p id args);
  }

  pub named_short : (d : ℕ) (id : Identifier) (args : List GenericArgument) → TypeFits limits d (typed p (n.Named id args)) → length id.name ≤ limits.names
  named_short d id args f = omega (arith, f.names, name_named p id args)

  pub resource_inside : (d : ℕ) (r : Resource) (x : TypeTree) → TypeFits limits (suc d) (typed p (n.Resource r x)) → TypeFits limits d x
  resource_inside d r x f = record { nodes = omega (arith, f.nodes, height_resource p r x); lists = omega (arith, f.lists, list_resource p r x); names = omega (arith, f.names, name_resource p r x) }

  pub projection_inside : (d : ℕ) (x : TypeTree) (id : Identifier) → TypeFits limits d (typed p (n.Projection x id)) → TypeFits limits d x
  projection_inside d x id f = record { nodes = omega (arith, f.nodes, height_projection p x id); lists = omega (arith, f.lists, list_projection p x id); names = omega (arith, f.names, name_projection p x id) }

  pub projection_over : (d : ℕ) (x : TypeTree) (id : Identifier) → TypeFits limits d (typed p (n.Projection x id)) → height x < d
  projection_over d x id f = omega (arith, f.nodes, height_projection p x id)

  pub projection_short : (d : ℕ) (x : TypeTree) (id : Identifier) → TypeFits limits d (typed p (n.Projection x id)) → length id.name ≤ limits.names
  projection_short d x id f = omega (arith, f.names, name_projection p x id)

  pub array_inside : (d : ℕ) (x : TypeTree) (l : Term) → TypeFits limits d (typed p (n.Array x l)) → TypeFits limits d x
  array_inside d x l f = record { nodes = omega (arith, f.nodes, height_array p x l); lists = omega (arith, f.lists, list_array p x l); names = omega (arith, f.names, name_array p x l) }

  pub array_over : (d : ℕ) (x : TypeTree) (l : Term) → TypeFits limits d (typed p (n.Array x l)) → height x < d
  array_over d x l f = omega (arith, f.nodes, height_array p x l)

  pub array_short : (d : ℕ) (x : TypeTree) (l : Term) → TypeFits limits d (typed p (n.Array x l)) → term_name l ≤ limits.names
  array_short d x l f = omega (arith, f.names, name_array p x l)

-- what goes on to be within the limits is within them
pub projections_fit : {ts : List Lexed} {x y : TypeTree} {from to : ℕ} → ProjectionsAt ts x y from to → (limits : Limits) (d : ℕ) → TypeFits limits d y → TypeFits limits d x
projections_fit t.whole limits d f = f
projections_fit (t.project {x = x} {id = id} s i r) limits d f = projection_inside limits _ d x id (projections_fit r limits d f)

-- the last of a list, and those before it
module _ (limits : Limits) (d : ℕ) (xs : List GenericArgument) (x : GenericArgument) (f : ArgumentsFit limits d (xs ++ x ∷ [])) where
  pub arguments_front : ArgumentsFit limits d xs
  arguments_front = record {
    nodes = omega (arith, f.nodes, greatest_last argument_height xs x);
    items = omega (arith, f.items, length-append xs (x ∷ []));
    lists = omega (arith, f.lists, greatest_last argument_list xs x);
    names = omega (arith, f.names, greatest_last argument_name xs x);
  }

  pub arguments_last : length xs < limits.items
  arguments_last = omega (arith, f.items, length-append xs (x ∷ []))

pub argument_inside : (limits : Limits) (d : ℕ) (xs : List GenericArgument) (x : TypeTree) → ArgumentsFit limits d (xs ++ g.Term x ∷ []) → TypeFits limits d x
argument_inside limits d xs x f = record {
  nodes = omega (arith, f.nodes, greatest_last argument_height xs (g.Term x), height_term x);
  lists = omega (arith, f.lists, greatest_last argument_list xs (g.Term x), list_term x);
  names = omega (arith, f.names, greatest_last argument_name xs (g.Term x), name_term x);
}

pub arguments_fit : {ts : List Lexed} {xs ys : List GenericArgument} {from to : ℕ} → MoreArgumentsAt ts xs ys from to → (limits : Limits) (d : ℕ) → ArgumentsFit limits d ys → ArgumentsFit limits d xs
arguments_fit t.end limits d f = f
arguments_fit (t.more {x = x} {list = xs} s a r) limits d f = arguments_front limits d xs x (arguments_fit r limits d f)
