-- A type breaks no limit exactly where it is within the limits.
use Rattle.std.proofs.Common.{◌≡◌, ℕ, zero, suc, ◌+◌, ◌≤◌, ◌<◌, max, List, [], ◌∷◌, ◌++◌, map, length, length-append, refl, arith, rules}
use Rattle.std.proofs.lemmas.List.{length-map}
use Rattle.slang_names.specs.declared.places.Place.{Place}
use Rattle.slang_names.specs.declared.codes.ModuleCode.TheVariants as code
use Rattle.slang_names.specs.declared.numbers.Number.{Number}
use Rattle.slang_tree.specs.declared.types.Identifier.{Identifier}
use Rattle.slang_tree.specs.declared.types.Builtin.{Builtin}
use Rattle.slang_tree.specs.declared.types.Resource.{Resource}
use Rattle.slang_tree.specs.declared.types.Term.{Term}
use Rattle.slang_tree.specs.declared.types.TypeTree.{TypeTree, the_lemmas}
use Rattle.slang_tree.specs.declared.types.TypeNode.TheVariants as n
use Rattle.slang_tree.specs.declared.types.GenericArgument.{GenericArgument}
use Rattle.slang_tree.specs.declared.types.GenericArgument.TheVariants as g
use Rattle.slang_reading.specs.Lexed.{Lexed}
use Rattle.slang_reading.specs.Kinds.{span}
use Rattle.slang_grammar.specs.Types as t
use Rattle.slang_grammar.specs.Types.{typed, TermAt, TypeAt, TypeNameAt, ProjectionsAt, ArgumentsAt, MoreArgumentsAt, ArgumentAt}
use Rattle.slang_grammar.specs.Heights.{greatest, height, argument_height}
use Rattle.slang_grammar.specs.Descent.{Limits}
use Rattle.slang_grammar.specs.Sizes.{longest_list, argument_list, term_name, longest_name, argument_name, TypeFits, ArgumentsFit}
use Rattle.slang_grammar.proofs.Heights.{height_builtin, height_this, height_named, height_resource, height_projection, height_array, height_term, height_number}
use Rattle.slang_grammar.proofs.TypesFitting.{type_positive, greatest_last, named_arguments, named_short, resource_inside, projection_over, projection_short, array_inside, array_over, array_short, projections_fit, arguments_last, argument_inside, arguments_fit}
use Rattle.expression_limits.specs.Breaks.{arises, arises_over, item_behind, name_there}
use Rattle.expression_limits.specs.Types.{term_breaks, type_breaks, projections_breaks, type_name_breaks, arguments_breaks, more_arguments_breaks, argument_breaks}
use Rattle.expression_limits.proofs.Clear.{clear_append, clear_left, clear_right, clear_less, less_clear, clear_most, most_clear, arises_none}

-- ---- the sizes of the nodes

list_builtin : (p : Place) (b : Builtin) → longest_list (typed p (n.Builtin b)) ≡ 0
list_builtin p b = search (rules, the_lemmas)

name_builtin : (p : Place) (b : Builtin) → longest_name (typed p (n.Builtin b)) ≡ 0
name_builtin p b = search (rules, the_lemmas)

list_this : (p : Place) → longest_list (typed p n.ThisType) ≡ 0
list_this p = search (rules, the_lemmas)

name_this : (p : Place) → longest_name (typed p n.ThisType) ≡ 0
name_this p = search (rules, the_lemmas)

list_named : (p : Place) (id : Identifier) (args : List GenericArgument) → longest_list (typed p (n.Named id args)) ≡ max (length args) (greatest (map argument_list args))
list_named p id args = search (rules, the_lemmas, length-map)

name_named : (p : Place) (id : Identifier) (args : List GenericArgument) → longest_name (typed p (n.Named id args)) ≡ max (length id.name) (greatest (map argument_name args))
name_named p id args = search (rules, the_lemmas)

list_resource : (p : Place) (r : Resource) (x : TypeTree) → longest_list (typed p (n.Resource r x)) ≡ longest_list x
list_resource p r x = search (rules, the_lemmas)

name_resource : (p : Place) (r : Resource) (x : TypeTree) → longest_name (typed p (n.Resource r x)) ≡ longest_name x
name_resource p r x = search (rules, the_lemmas)

list_projection : (p : Place) (x : TypeTree) (id : Identifier) → longest_list (typed p (n.Projection x id)) ≡ longest_list x
list_projection p x id = search (rules, the_lemmas)

name_projection : (p : Place) (x : TypeTree) (id : Identifier) → longest_name (typed p (n.Projection x id)) ≡ max (longest_name x) (length id.name)
name_projection p x id = search (rules, the_lemmas)

list_array : (p : Place) (x : TypeTree) (l : Term) → longest_list (typed p (n.Array x l)) ≡ longest_list x
list_array p x l = search (rules, the_lemmas)

name_array : (p : Place) (x : TypeTree) (l : Term) → longest_name (typed p (n.Array x l)) ≡ max (longest_name x) (term_name l)
name_array p x l = search (rules, the_lemmas)

list_term : (x : TypeTree) → argument_list (g.Term x) ≡ longest_list x
list_term x = search (rules, the_lemmas)

name_term : (x : TypeTree) → argument_name (g.Term x) ≡ longest_name x
name_term x = search (rules, the_lemmas)

list_number : (p : Place) (v : Number) → argument_list (g.Number p v) ≡ 0
list_number p v = search (rules, the_lemmas)

name_number : (p : Place) (v : Number) → argument_name (g.Number p v) ≡ 0
name_number p v = search (rules, the_lemmas)

-- an argument within the limits
record ArgumentFits (limits : Limits) (d : ℕ) (x : GenericArgument) : Type 0 where
  nodes : argument_height x ≤ d
  lists : argument_list x ≤ limits.items
  names : argument_name x ≤ limits.names

-- one more argument within the limits
longer_fits : (limits : Limits) (d : ℕ) (xs : List GenericArgument) (x : GenericArgument) → length xs < limits.items → ArgumentFits limits d x → ArgumentsFit limits d xs → ArgumentsFit limits d (xs ++ x ∷ [])
longer_fits limits d xs x lt a f = record {
  nodes = let h = a.nodes in let l = f.nodes in omega (arith, h, l, greatest_last argument_height xs x);
  items = omega (arith, lt, length-append xs (x ∷ []));
  lists = let h = a.lists in let l = f.lists in omega (arith, h, l, greatest_last argument_list xs x);
  names = let h = a.names in let l = f.names in omega (arith, h, l, greatest_last argument_name xs x);
}

module _ (ts : List Lexed) (limits : Limits) where
  no_nodes : {A : Type 0} (x : TypeTree) → TypeFits limits zero x → A
  no_nodes x f = absurd (let l = f.nodes in let p = type_positive x in omega (arith, l, p))

  -- ---- what is within the limits breaks none

  fit_term : {x : Term} {at : ℕ} → (s : TermAt ts x at) → term_name x ≤ limits.names → term_breaks ts limits s ≡ []
  fit_term (t.number_term s) h = refl
  fit_term {at = at} (t.name_term {id = id} s) h = clear_most ts (length id.name) limits.names code.TooLong at h

  mutual
    pub fit_type : {x : TypeTree} {from to : ℕ} → (s : TypeAt ts x from to) → (d : ℕ) → TypeFits limits d x → type_breaks ts limits s d ≡ []
    fit_type (t.plain n r) d f = clear_append (type_name_breaks ts limits n d) (projections_breaks ts limits r d) (fit_named n d (projections_fit r limits d f)) (fit_projections r d f)
    fit_type (t.array {at = at} {y = y} {t = l} {end = end} n r o i c) d f =
        let below = array_inside limits (span y.place end) d y l f in
        let over = arises_over ts (height y) at d in
        clear_append (type_name_breaks ts limits n d) (projections_breaks ts limits r d ++ (over ++ term_breaks ts limits i)) (fit_named n d (projections_fit r limits d below))
        (clear_append (projections_breaks ts limits r d) (over ++ term_breaks ts limits i) (fit_projections r d below)
        (clear_append over (term_breaks ts limits i) (clear_less ts (height y) d code.TooNested at (array_over limits (span y.place end) d y l f)) (fit_term i (array_short limits (span y.place end) d y l f))))

    fit_projections : {x y : TypeTree} {from to : ℕ} → (s : ProjectionsAt ts x y from to) → (d : ℕ) → TypeFits limits d y → projections_breaks ts limits s d ≡ []
    fit_projections t.whole d f = refl
    fit_projections {x = x} {from = from} (t.project {id = id} s i r) d f =
        let here = projections_fit r limits d f in
        let place = span x.place id.place in
        let over = arises_over ts (height x) from d in
        let name = name_there ts limits id (from + 1) in
        clear_append (over ++ name) (projections_breaks ts limits r d)
        (clear_append over name (clear_less ts (height x) d code.TooNested from (projection_over limits place d x id here)) (clear_most ts (length id.name) limits.names code.TooLong (from + 1) (projection_short limits place d x id here)))
        (fit_projections r d f)

    fit_named : {x : TypeTree} {from to : ℕ} → (s : TypeNameAt ts x from to) → (d : ℕ) → TypeFits limits d x → type_name_breaks ts limits s d ≡ []
    fit_named {x = x} (t.builtin s q) zero f = no_nodes x f
    fit_named {x = x} (t.this_type s) zero f = no_nodes x f
    fit_named {x = x} (t.name i) zero f = no_nodes x f
    fit_named {x = x} (t.generic i a) zero f = no_nodes x f
    fit_named {x = x} (t.resource s q o v c) zero f = no_nodes x f
    fit_named (t.builtin s q) (suc d) f = refl
    fit_named (t.this_type s) (suc d) f = refl
    fit_named {from = from} (t.name {id = id} i) (suc d) f = clear_most ts (length id.name) limits.names code.TooLong from (named_short limits id.place (suc d) id [] f)
    fit_named {from = from} (t.generic {id = id} {args = args} {end = end} i a) (suc d) f =
        clear_append (name_there ts limits id from) (arguments_breaks ts limits a d) (clear_most ts (length id.name) limits.names code.TooLong from (named_short limits (span id.place end) (suc d) id args f))
        (fit_arguments a d (named_arguments limits (span id.place end) d id args f))
    fit_named (t.resource {p = p} {end = end} {r = r} {x = x} s q o v c) (suc d) f = fit_type v d (resource_inside limits (span p end) d r x f)

    pub fit_arguments : {args : List GenericArgument} {end : Place} {from to : ℕ} → (s : ArgumentsAt ts args end from to) → (d : ℕ) → ArgumentsFit limits d args → arguments_breaks ts limits s d ≡ []
    fit_arguments (t.arguments s a r o) d f = clear_append (argument_breaks ts limits a 0 d) (more_arguments_breaks ts limits r d) (fit_argument a [] d (arguments_fit r limits d f)) (fit_more r d f)

    fit_more : {xs ys : List GenericArgument} {from to : ℕ} → (s : MoreArgumentsAt ts xs ys from to) → (d : ℕ) → ArgumentsFit limits d ys → more_arguments_breaks ts limits s d ≡ []
    fit_more t.end d f = refl
    fit_more {xs = xs} (t.more s a r) d f = clear_append (argument_breaks ts limits a (length xs) d) (more_arguments_breaks ts limits r d) (fit_argument a xs d (arguments_fit r limits d f)) (fit_more r d f)

    fit_argument : {x : GenericArgument} {from to : ℕ} → (s : ArgumentAt ts x from to) → (xs : List GenericArgument) (d : ℕ) → ArgumentsFit limits d (xs ++ x ∷ []) → argument_breaks ts limits s (length xs) d ≡ []
    fit_argument (t.type_argument {x = x} u) xs zero f = no_nodes x (argument_inside limits zero xs x f)
    fit_argument {from = from} (t.type_argument {x = x} u) xs (suc d) f =
        clear_append (item_behind ts limits (length xs) from) (type_breaks ts limits u (suc d)) (clear_less ts (length xs) limits.items code.TooLong from (arguments_last limits (suc d) xs (g.Term x) f))
        (fit_type u (suc d) (argument_inside limits (suc d) xs x f))
    fit_argument {x = x} {from = from} (t.number_argument s) xs d f = clear_less ts (length xs) limits.items code.TooLong from (arguments_last limits d xs x f)

  -- ---- what breaks none is within them

  term_fits : {x : Term} {at : ℕ} → (s : TermAt ts x at) → term_breaks ts limits s ≡ [] → term_name x ≤ limits.names
  term_fits (t.number_term s) c = omega arith
  term_fits {at = at} (t.name_term {id = id} s) c = most_clear ts (length id.name) limits.names code.TooLong at c

  mutual
    pub type_fits : {x : TypeTree} {from to : ℕ} → (s : TypeAt ts x from to) → (d : ℕ) → type_breaks ts limits s d ≡ [] → TypeFits limits d x
    type_fits (t.plain n r) d c =
        let names = type_name_breaks ts limits n d in
        let rest = projections_breaks ts limits r d in
        projections_fits r d (clear_right names rest c) (named_fits n d (clear_left names rest c))
    type_fits (t.array {at = at} {y = y} {t = l} {end = end} n r o i c) d e =
        let names = type_name_breaks ts limits n d in
        let rest = projections_breaks ts limits r d in
        let over = arises_over ts (height y) at d in
        let term = term_breaks ts limits i in
        let e1 = clear_right names (rest ++ (over ++ term)) e in
        let e2 = clear_right rest (over ++ term) e1 in
        let f = projections_fits r d (clear_left rest (over ++ term) e1) (named_fits n d (clear_left names (rest ++ (over ++ term)) e)) in
        let lt = less_clear ts (height y) d code.TooNested at (clear_left over term e2) in
        let short = term_fits i (clear_right over term e2) in
        let place = span y.place end in
        let lists = f.lists in
        let long = f.names in
        record { nodes = omega (arith, lt, height_array place y l); lists = omega (arith, lists, list_array place y l); names = omega (arith, long, short, name_array place y l) }

    projections_fits : {x y : TypeTree} {from to : ℕ} → (s : ProjectionsAt ts x y from to) → (d : ℕ) → projections_breaks ts limits s d ≡ [] → TypeFits limits d x → TypeFits limits d y
    projections_fits t.whole d c f = f
    projections_fits {x = x} {from = from} (t.project {id = id} s i r) d c f =
        let over = arises_over ts (height x) from d in
        let name = name_there ts limits id (from + 1) in
        let rest = projections_breaks ts limits r d in
        let e = clear_left (over ++ name) rest c in
        let lt = less_clear ts (height x) d code.TooNested from (clear_left over name e) in
        let short = most_clear ts (length id.name) limits.names code.TooLong (from + 1) (clear_right over name e) in
        let place = span x.place id.place in
        let lists = f.lists in
        let long = f.names in
        projections_fits r d (clear_right (over ++ name) rest c)
        (record { nodes = omega (arith, lt, height_projection place x id); lists = omega (arith, lists, list_projection place x id); names = omega (arith, long, short, name_projection place x id) })

    named_fits : {x : TypeTree} {from to : ℕ} → (s : TypeNameAt ts x from to) → (d : ℕ) → type_name_breaks ts limits s d ≡ [] → TypeFits limits d x
    named_fits {from = from} (t.builtin s q) zero c = arises_none ts from [] c
    named_fits {from = from} (t.this_type s) zero c = arises_none ts from [] c
    named_fits {from = from} (t.name {id = id} i) zero c = arises_none ts from (name_there ts limits id from) c
    named_fits {from = from} (t.generic {id = id} i a) zero c = arises_none ts from (name_there ts limits id from ++ arguments_breaks ts limits a zero) c
    named_fits {from = from} (t.resource s q o x v) zero c = arises_none ts from (type_breaks ts limits x zero) c
    named_fits (t.builtin {p = p} {b = b} s q) (suc d) c =
        record { nodes = omega (arith, height_builtin p b); lists = omega (arith, list_builtin p b); names = omega (arith, name_builtin p b) }
    named_fits (t.this_type {p = p} s) (suc d) c =
        record { nodes = omega (arith, height_this p); lists = omega (arith, list_this p); names = omega (arith, name_this p) }
    named_fits {from = from} (t.name {id = id} i) (suc d) c =
        let p = id.place in
        let short = most_clear ts (length id.name) limits.names code.TooLong from c in
        record { nodes = omega (arith, height_named p id []); lists = omega (arith, list_named p id []); names = omega (arith, short, name_named p id []) }
    named_fits {from = from} (t.generic {id = id} {args = args} {end = end} i a) (suc d) c =
        let p = span id.place end in
        let name = name_there ts limits id from in
        let rest = arguments_breaks ts limits a d in
        let short = most_clear ts (length id.name) limits.names code.TooLong from (clear_left name rest c) in
        let f = arguments_fits a d (clear_right name rest c) in
        let nodes = f.nodes in
        let items = f.items in
        let lists = f.lists in
        let long = f.names in
        record { nodes = omega (arith, nodes, height_named p id args); lists = omega (arith, items, lists, list_named p id args); names = omega (arith, short, long, name_named p id args) }
    named_fits (t.resource {p = p} {end = end} {r = r} {x = x} s q o v u) (suc d) c =
        let place = span p end in
        let f = type_fits v d c in
        let nodes = f.nodes in
        let lists = f.lists in
        let long = f.names in
        record { nodes = omega (arith, nodes, height_resource place r x); lists = omega (arith, lists, list_resource place r x); names = omega (arith, long, name_resource place r x) }

    pub arguments_fits : {args : List GenericArgument} {end : Place} {from to : ℕ} → (s : ArgumentsAt ts args end from to) → (d : ℕ) → arguments_breaks ts limits s d ≡ [] → ArgumentsFit limits d args
    arguments_fits (t.arguments {x = x} s a r o) d c =
        let one = argument_breaks ts limits a 0 d in
        let rest = more_arguments_breaks ts limits r d in
        let f = argument_fits a 0 d (clear_left one rest c) in
        more_fits r d (clear_right one rest c) (longer_fits limits d [] x f.0 f.1 (record { nodes = omega arith; items = omega arith; lists = omega arith; names = omega arith }))

    more_fits : {xs ys : List GenericArgument} {from to : ℕ} → (s : MoreArgumentsAt ts xs ys from to) → (d : ℕ) → more_arguments_breaks ts limits s d ≡ [] → ArgumentsFit limits d xs → ArgumentsFit limits d ys
    more_fits t.end d c f = f
    more_fits {xs = xs} (t.more {x = x} s a r) d c f =
        let one = argument_breaks ts limits a (length xs) d in
        let rest = more_arguments_breaks ts limits r d in
        let h = argument_fits a (length xs) d (clear_left one rest c) in
        more_fits r d (clear_right one rest c) (longer_fits limits d xs x h.0 h.1 f)

    argument_fits : {x : GenericArgument} {from to : ℕ} → (s : ArgumentAt ts x from to) → (count d : ℕ) → argument_breaks ts limits s count d ≡ [] → (count < limits.items) × ArgumentFits limits d x
    argument_fits {from = from} (t.type_argument {x = x} u) count d c =
        let node = arises ts from d in
        let item = item_behind ts limits count from in
        let own = type_breaks ts limits u d in
        let e = clear_right node (item ++ own) c in
        let f = type_fits u d (clear_right item own e) in
        let nodes = f.nodes in
        let lists = f.lists in
        let long = f.names in (
          less_clear ts count limits.items code.TooLong from (clear_left item own e),
          record { nodes = omega (arith, nodes, height_term x); lists = omega (arith, lists, list_term x); names = omega (arith, long, name_term x) },
        )
    argument_fits {from = from} (t.number_argument {p = p} {v = v} s) count d c = (
      less_clear ts count limits.items code.TooLong from c,
      record { nodes = omega (arith, height_number p v); lists = omega (arith, list_number p v); names = omega (arith, name_number p v) },
    )
