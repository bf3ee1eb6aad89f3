-- What of a statement within the limits is within them too.
use Rattle.std.proofs.Common.{Bool, true, false, ◌&&◌, ◌||◌, refl, ◌≡◌, ℕ, suc, ◌+◌, ◌<◌, ◌≤◌, max, List, [], ◌∷◌, ◌++◌, length, map, length-append, Option, Some, arith, rules}
use Rattle.std.proofs.lemmas.List.{length-map}
use Rattle.slang_names.specs.declared.places.Place.{Place}
use Rattle.slang_tree.specs.declared.types.TypeTree.{TypeTree}
use Rattle.slang_tree.specs.declared.types.Term.{Term}
use Rattle.slang_tree.specs.declared.types.Identifier.{Identifier}
use Rattle.slang_tree.specs.declared.expressions.ExprTree.{ExprTree}
use Rattle.slang_tree.specs.declared.statements.DeclaredName.{DeclaredName}
use Rattle.slang_tree.specs.declared.statements.Initializer.{Initializer}
use Rattle.slang_tree.specs.declared.statements.Initializer.TheVariants as i
use Rattle.slang_tree.specs.declared.statements.ListTree.{ListTree, the_lemmas}
use Rattle.slang_tree.specs.declared.statements.LocalName.{LocalName}
use Rattle.slang_tree.specs.declared.statements.Local.{Local}
use Rattle.slang_reading.specs.Lexed.{Lexed}
use Rattle.slang_grammar.specs.Descent.{Limits}
use Rattle.slang_grammar.specs.Heights.{greatest}
use Rattle.slang_grammar.specs.Sizes.{term_name, TypeFits}
use Rattle.slang_grammar.proofs.TypesFitting.{greatest_last}
use Rattle.expression_grammar.specs.Sizes.{Fits}
use Rattle.expression_grammar.proofs.Sizes.{positive}
use Rattle.statement_grammar.specs.Statements as t
use Rattle.statement_grammar.specs.Statements.{declared, listed, local_name, local_of, LengthsAt, InitializerAt, ListAt, MoreItemsAt, MoreLocalNamesAt}
use Rattle.statement_fits.specs.Sizes.{Count, optional, in_initializer, in_list, in_local_name, in_local, nodes, lists, names, Keeps}

pub and_left : (a b : Bool) → (a && b) ≡ true → a ≡ true
and_left true b h = refl
and_left false b h = cc

pub and_right : (a b : Bool) → (a && b) ≡ true → b ≡ true
and_right true b h = h
and_right false b h = cc

pub and_both : (a b : Bool) → a ≡ true → b ≡ true → (a && b) ≡ true
and_both true b g h = h
and_both false b g h = cc

-- the same of rules that free limits leave out
pub or_map : (f a b : Bool) → (a ≡ true → b ≡ true) → (f || a) ≡ true → (f || b) ≡ true
or_map true a b g h = refl
or_map false a b g h = g h

pub or_left : (f a b : Bool) → (f || (a && b)) ≡ true → (f || a) ≡ true
or_left f a b h = or_map f (a && b) a (and_left a b) h

pub or_right : (f a b : Bool) → (f || (a && b)) ≡ true → (f || b) ≡ true
or_right f a b h = or_map f (a && b) b (and_right a b) h

pub max_left : (a b : ℕ) → a ≤ max a b
max_left a b = omega arith

pub max_right : (a b : ℕ) → b ≤ max a b
max_right a b = omega arith

module _ (limits : Limits) where
  -- what is no more is within the limits too
  pub less : (d : ℕ) (f g : Count → ℕ) → ((count : Count) → f count ≤ g count) → Keeps limits d g → Keeps limits d f
  less d f g h w = record {
    depth = omega (arith, h nodes, w.depth);
    long = omega (arith, h lists, w.long);
    short = omega (arith, h names, w.short);
  }

  -- what stands in a node has a node less
  pub inside : (d : ℕ) (f g : Count → ℕ) → ((count : Count) → g count ≡ count.over (f count)) → Keeps limits (suc d) g → Keeps limits d f
  inside d f g h w =
      let a : g nodes ≡ f nodes + 1 = h nodes in
      let b : g lists ≡ f lists = h lists in
      let c : g names ≡ f names = h names in
      record { depth = omega (arith, a, w.depth); long = omega (arith, b, w.long); short = omega (arith, c, w.short) }

  pub value_fits : (d : ℕ) (x : ExprTree) → Keeps limits d (λ count. count.of_value x) → Fits limits d x
  value_fits d x w = record { nodes = w.depth; lists = w.long; names = w.short }

  pub type_fits : (d : ℕ) (x : TypeTree) → Keeps limits d (λ count. count.of_type x) → TypeFits limits d x
  type_fits d x w = record { nodes = w.depth; lists = w.long; names = w.short }

  -- ---- what locals begin with

  pub in_expression : (count : Count) (x : ExprTree) → in_initializer count (i.Expression x) ≡ count.of_value x
  in_expression count x = search (rules, the_lemmas)

  pub in_braces : (count : Count) (x : ListTree) → in_initializer count (i.List x) ≡ in_list count x
  in_braces count x = search (rules, the_lemmas)

  pub in_items : (count : Count) (p : Place) (list : List Initializer) → in_list count (listed p list) ≡ count.of_list (length list) (greatest (map (in_initializer count) list))
  in_items count p list = search (rules, the_lemmas, length-map)

  -- an expression that something begins with
  pub expression_fits : (d : ℕ) (x : ExprTree) → Keeps limits d (λ count. in_initializer count (i.Expression x)) → Fits limits d x
  expression_fits d x w = value_fits d x (less d (λ count. count.of_value x) (λ count. in_initializer count (i.Expression x)) (λ count. omega (arith, in_expression count x)) w)

  -- the items of a list, of which each is in the list
  pub items_fit : (d : ℕ) (p : Place) (list : List Initializer) → Keeps limits (suc d) (λ count. in_initializer count (i.List (listed p list))) →
      Keeps limits d (λ count. greatest (map (in_initializer count) list))
  items_fit d p list w =
      let a : in_list nodes (listed p list) ≡ greatest (map (in_initializer nodes) list) + 1 = in_items nodes p list in
      let b : in_list lists (listed p list) ≡ max (length list) (greatest (map (in_initializer lists) list)) = in_items lists p list in
      let c : in_list names (listed p list) ≡ greatest (map (in_initializer names) list) = in_items names p list in
      record {
        depth = omega (arith, a, in_braces nodes (listed p list), w.depth);
        long = omega (arith, b, in_braces lists (listed p list), w.long);
        short = omega (arith, c, in_braces names (listed p list), w.short);
      }

  pub items_in : (d : ℕ) (p : Place) (list : List Initializer) → Keeps limits d (λ count. in_initializer count (i.List (listed p list))) → length list ≤ limits.items
  items_in d p list w = let b : in_list lists (listed p list) ≡ max (length list) (greatest (map (in_initializer lists) list)) = in_items lists p list in
      omega (arith, b, in_braces lists (listed p list), w.long)

  list_positive : (d : ℕ) (p : Place) (list : List Initializer) → Keeps limits d (λ count. in_initializer count (i.List (listed p list))) → 0 < d
  list_positive d p list w = let a : in_list nodes (listed p list) ≡ greatest (map (in_initializer nodes) list) + 1 = in_items nodes p list in
      omega (arith, a, in_braces nodes (listed p list), w.depth)

  pub initializer_positive : {ts : List Lexed} {x : Initializer} {end : Place} {from to : ℕ} → InitializerAt ts x end from to → (d : ℕ) → Keeps limits d (λ count. in_initializer count x) → 0 < d
  initializer_positive (t.expression {x = x} v) d w = let h = (expression_fits d x w).nodes in let p = positive x in omega (arith, h, p)
  initializer_positive (t.braces (t.no_items {p = p} {q = q} s c)) d w = list_positive d _ [] w
  initializer_positive (t.braces (t.items {p = p} {q = q} {all = all} s v r c)) d w = list_positive d _ all w

  module _ {A : Type 0} (f : Count → A → ℕ) (d : ℕ) (xs : List A) (x : A) (w : Keeps limits d (λ count. greatest (map (f count) (xs ++ x ∷ [])))) where
    pub front_fits : Keeps limits d (λ count. greatest (map (f count) xs))
    front_fits = less d (λ count. greatest (map (f count) xs)) (λ count. greatest (map (f count) (xs ++ x ∷ []))) (λ count. omega (arith, greatest_last (f count) xs x)) w

    pub last_fits : Keeps limits d (λ count. f count x)
    last_fits = less d (λ count. f count x) (λ count. greatest (map (f count) (xs ++ x ∷ []))) (λ count. omega (arith, greatest_last (f count) xs x)) w

  pub more_items_fit : {ts : List Lexed} {xs ys : List Initializer} {from to : ℕ} → MoreItemsAt ts xs ys from to → (d : ℕ) → Keeps limits d (λ count. greatest (map (in_initializer count) ys)) →
      Keeps limits d (λ count. greatest (map (in_initializer count) xs))
  more_items_fit t.end d w = w
  more_items_fit (t.more {x = x} {list = xs} s v r) d w = front_fits in_initializer d xs x (more_items_fit r d w)

  -- so many items are there
  pub more_items_in : {ts : List Lexed} {xs ys : List Initializer} {from to : ℕ} → MoreItemsAt ts xs ys from to → length xs ≤ length ys
  more_items_in t.end = omega arith
  more_items_in (t.more {x = x} {list = xs} s v r) = let h = more_items_in r in omega (arith, h, length-append xs (x ∷ []))

  -- ---- declared names and locals

  pub name_short : (d : ℕ) (id : Identifier) (list : List Term) (end : Place) → Keeps limits d (λ count. count.of_name (declared id list end)) → length id.name ≤ limits.names
  name_short d id list end w = let h : max (length id.name) (greatest (map term_name list)) ≤ limits.names = w.short in omega (arith, h)

  pub lengths_short : (d : ℕ) (id : Identifier) (list : List Term) (end : Place) → Keeps limits d (λ count. count.of_name (declared id list end)) → greatest (map term_name list) ≤ limits.names
  lengths_short d id list end w = let h : max (length id.name) (greatest (map term_name list)) ≤ limits.names = w.short in omega (arith, h)

  pub name_alone : (d : ℕ) (x : DeclaredName) (v : Option Initializer) → Keeps limits d (λ count. in_local_name count (local_name x v)) → Keeps limits d (λ count. count.of_name x)
  name_alone d x v w = less d (λ count. count.of_name x) (λ count. in_local_name count (local_name x v)) (λ count. max_left (count.of_name x) (optional (in_initializer count) v)) w

  pub name_begun : (d : ℕ) (x : DeclaredName) (v : Initializer) → Keeps limits d (λ count. in_local_name count (local_name x (Some v))) → Keeps limits d (λ count. in_initializer count v)
  name_begun d x v w = less d (λ count. in_initializer count v) (λ count. in_local_name count (local_name x (Some v))) (λ count. max_right (count.of_name x) (in_initializer count v)) w

  pub names_fit : {ts : List Lexed} {xs ys : List LocalName} {p q : Place} {from to : ℕ} → MoreLocalNamesAt ts xs ys p q from to → (d : ℕ) → Keeps limits d (λ count. greatest (map (in_local_name count) ys)) →
      Keeps limits d (λ count. greatest (map (in_local_name count) xs))
  names_fit (t.end n) d w = w
  names_fit (t.more {x = x} {list = xs} s v r) d w = front_fits in_local_name d xs x (names_fit r d w)

  pub local_type : (d : ℕ) (x : Local) → Keeps limits d (λ count. in_local count x) → TypeFits limits d x.kind
  local_type d x w = type_fits d x.kind (less d (λ count. count.of_type x.kind) (λ count. in_local count x) (λ count. max_left (count.of_type x.kind) (greatest (map (in_local_name count) x.names))) w)

  pub local_names : (d : ℕ) (x : Local) → Keeps limits d (λ count. in_local count x) → Keeps limits d (λ count. greatest (map (in_local_name count) x.names))
  local_names d x w = less d (λ count. greatest (map (in_local_name count) x.names)) (λ count. in_local count x) (λ count. max_right (count.of_type x.kind) (greatest (map (in_local_name count) x.names))) w
