-- Of the limits that a type breaks the first goes first.
use Rattle.std.proofs.Common.{ℕ, suc, ◌+◌, List, ◌++◌, length, arith}
use Rattle.std.specs.Prelude.{nat_le, nat_lt}
use Rattle.slang_names.specs.declared.places.Place.{Place}
use Rattle.slang_tree.specs.declared.types.Term.{Term}
use Rattle.slang_tree.specs.declared.types.TypeTree.{TypeTree}
use Rattle.slang_tree.specs.declared.types.GenericArgument.{GenericArgument}
use Rattle.slang_reading.specs.Lexed.{Lexed}
use Rattle.slang_grammar.specs.Types as t
use Rattle.slang_grammar.specs.Types.{TermAt, TypeAt, TypeNameAt, ProjectionsAt, ArgumentsAt, MoreArgumentsAt, ArgumentAt}
use Rattle.slang_grammar.specs.Heights.{height}
use Rattle.slang_grammar.specs.Descent.{Limits}
use Rattle.expression_limits.specs.Breaks.{inside, arises_over, name_there}
use Rattle.expression_limits.specs.Types.{term_breaks, type_breaks, projections_breaks, type_name_breaks, arguments_breaks, more_arguments_breaks, argument_breaks}
use Rattle.expression_limits.proofs.Moves.{type_moves, projections_move, type_name_moves, arguments_move, more_arguments_move, argument_moves}
use Rattle.expression_limits.proofs.Order.{Ordered, Late, ordered_none, ordered_wider, far, late_append, late_none, late_long, ordered_append, ordered_node, ordered_arises, ordered_over, ordered_name, ordered_item}

module _ (ts : List Lexed) (limits : Limits) where
  ordered_term : {x : Term} {at : ℕ} → (s : TermAt ts x at) → Ordered ts at (at + 1) (term_breaks ts limits s)
  ordered_term {at = at} (t.number_term s) = ordered_none ts at (at + 1)
  ordered_term {at = at} (t.name_term {id = id} s) = ordered_name ts at (nat_le (length id.name) limits.names)

  mutual
    pub ordered_type : {x : TypeTree} {from to : ℕ} → (s : TypeAt ts x from to) → (d : ℕ) → Ordered ts from to (type_breaks ts limits s d)
    ordered_type {from = from} {to = to} (t.plain {mid = mid} n r) d =
        let u = type_name_moves ts n in
        ordered_append ts from mid to (type_name_breaks ts limits n d) (projections_breaks ts limits r d) (omega (arith, u)) (projections_move ts r) (ordered_named n d) (ordered_projections r d)
    ordered_type {from = from} (t.array {mid = mid} {at = at} {y = y} n r o l c) d =
        let u = type_name_moves ts n in
        let v = projections_move ts r in
        let end = at + 1 + 1 + 1 in
        let over = arises_over ts (height y) at d in
        ordered_append ts from mid end (type_name_breaks ts limits n d) (projections_breaks ts limits r d ++ (over ++ term_breaks ts limits l)) (omega (arith, u)) (omega (arith, v)) (ordered_named n d)
        (ordered_append ts mid at end (projections_breaks ts limits r d) (over ++ term_breaks ts limits l) v (omega arith) (ordered_projections r d)
        (ordered_append ts at (at + 1) end over (term_breaks ts limits l) (omega arith) (omega arith) (ordered_over ts at (nat_lt (height y) d))
        (ordered_wider ts (at + 1) (at + 1 + 1) (at + 1) end (term_breaks ts limits l) (omega arith) (omega arith) (ordered_term l))))

    ordered_projections : {x y : TypeTree} {from to : ℕ} → (s : ProjectionsAt ts x y from to) → (d : ℕ) → Ordered ts from to (projections_breaks ts limits s d)
    ordered_projections {from = from} {to = to} t.whole d = ordered_none ts from to
    ordered_projections {x = x} {from = from} {to = to} (t.project {id = id} s i r) d =
        let over = arises_over ts (height x) from d in
        let name = name_there ts limits id (from + 1) in
        ordered_append ts from (from + 1 + 1) to (over ++ name) (projections_breaks ts limits r d) (omega arith) (projections_move ts r)
        (ordered_append ts from (from + 1) (from + 1 + 1) over name (omega arith) (omega arith) (ordered_over ts from (nat_lt (height x) d)) (ordered_name ts (from + 1) (nat_le (length id.name) limits.names)))
        (ordered_projections r d)

    ordered_named : {x : TypeTree} {from to : ℕ} → (s : TypeNameAt ts x from to) → (d : ℕ) → Ordered ts from to (type_name_breaks ts limits s d)
    ordered_named {from = from} (t.builtin s q) d = ordered_arises ts from d
    ordered_named {from = from} (t.this_type s) d = ordered_arises ts from d
    ordered_named {from = from} (t.name {id = id} i) d = ordered_node ts from (from + 1) d (name_there ts limits id from) (omega arith) (ordered_name ts from (nat_le (length id.name) limits.names))
    ordered_named {from = from} {to = to} (t.generic {id = id} i a) d =
        let u = arguments_move ts a in
        let name = name_there ts limits id from in
        let args = arguments_breaks ts limits a (inside d) in
        ordered_node ts from to d (name ++ args) (omega (arith, u))
        (ordered_append ts from (from + 1) to name args (omega arith) (omega (arith, u)) (ordered_name ts from (nat_le (length id.name) limits.names)) (ordered_arguments a (inside d)))
    ordered_named {from = from} (t.resource {at = at} s q o x c) d =
        let u = type_moves ts x in
        let bs = type_breaks ts limits x (inside d) in
        ordered_node ts from (at + 1) d bs (omega (arith, u)) (ordered_wider ts (from + 1 + 1) at from (at + 1) bs (omega arith) (omega arith) (ordered_type x (inside d)))

    pub ordered_arguments : {args : List GenericArgument} {end : Place} {from to : ℕ} → (s : ArgumentsAt ts args end from to) → (d : ℕ) → Ordered ts from to (arguments_breaks ts limits s d)
    ordered_arguments {from = from} (t.arguments {mid = mid} {at = at} s a r o) d =
        let u = argument_moves ts a in
        let v = more_arguments_move ts r in
        let one = argument_breaks ts limits a 0 d in
        let more = more_arguments_breaks ts limits r d in
        ordered_append ts from mid (at + 1) one more (omega (arith, u)) (omega (arith, v)) (ordered_wider ts (from + 1) mid from mid one (omega arith) (omega arith) (ordered_argument a 0 d))
        (ordered_wider ts mid at mid (at + 1) more (omega arith) (omega arith) (ordered_more r d))

    ordered_more : {xs ys : List GenericArgument} {from to : ℕ} → (s : MoreArgumentsAt ts xs ys from to) → (d : ℕ) → Ordered ts from to (more_arguments_breaks ts limits s d)
    ordered_more {from = from} {to = to} t.end d = ordered_none ts from to
    ordered_more {xs = xs} {from = from} {to = to} (t.more {mid = mid} s a r) d =
        let u = argument_moves ts a in
        let one = argument_breaks ts limits a (length xs) d in
        ordered_append ts from mid to one (more_arguments_breaks ts limits r d) (omega (arith, u)) (more_arguments_move ts r) (ordered_wider ts (from + 1) mid from mid one (omega arith) (omega arith) (ordered_argument a (length xs) d)) (ordered_more r d)

    ordered_argument : {x : GenericArgument} {from to : ℕ} → (s : ArgumentAt ts x from to) → (count d : ℕ) → Ordered ts from to (argument_breaks ts limits s count d)
    ordered_argument {from = from} {to = to} (t.type_argument x) count d = ordered_item ts limits count from to d (type_breaks ts limits x) (type_moves ts x) (λ e. ordered_type x e) (λ e. late_type x e)
    ordered_argument {from = from} (t.number_argument s) count d = ordered_name ts from (nat_lt count limits.items)

    -- with room for a node, none is too deep at the first token
    late_type : {x : TypeTree} {from to : ℕ} → (s : TypeAt ts x from to) → (d : ℕ) → Late ts from (type_breaks ts limits s (suc d))
    late_type {from = from} {to = to} (t.plain {mid = mid} n r) d =
        late_append ts from (type_name_breaks ts limits n (suc d)) (projections_breaks ts limits r (suc d)) (late_named n d) (far ts from mid to (projections_breaks ts limits r (suc d)) (type_name_moves ts n) (ordered_projections r (suc d)).all)
    late_type {from = from} (t.array {mid = mid} {at = at} {y = y} n r o l c) d =
        let u = type_name_moves ts n in
        let v = projections_move ts r in
        let over = arises_over ts (height y) at (suc d) in
        late_append ts from (type_name_breaks ts limits n (suc d)) (projections_breaks ts limits r (suc d) ++ (over ++ term_breaks ts limits l)) (late_named n d)
        (late_append ts from (projections_breaks ts limits r (suc d)) (over ++ term_breaks ts limits l) (far ts from mid at (projections_breaks ts limits r (suc d)) u (ordered_projections r (suc d)).all)
        (late_append ts from over (term_breaks ts limits l) (far ts from at (at + 1) over (omega (arith, u, v)) (ordered_over ts at (nat_lt (height y) (suc d))).all)
        (far ts from (at + 1) (at + 1 + 1) (term_breaks ts limits l) (omega (arith, u, v)) (ordered_term l).all)))

    late_named : {x : TypeTree} {from to : ℕ} → (s : TypeNameAt ts x from to) → (d : ℕ) → Late ts from (type_name_breaks ts limits s (suc d))
    late_named {from = from} (t.builtin s q) d = late_none ts from
    late_named {from = from} (t.this_type s) d = late_none ts from
    late_named {from = from} (t.name {id = id} i) d = late_long ts from (nat_le (length id.name) limits.names)
    late_named {from = from} {to = to} (t.generic {id = id} i a) d =
        late_append ts from (name_there ts limits id from) (arguments_breaks ts limits a d) (late_long ts from (nat_le (length id.name) limits.names))
        (far ts from (from + 1) to (arguments_breaks ts limits a d) (omega arith) (ordered_arguments a d).all)
    late_named {from = from} (t.resource {at = at} s q o x c) d = far ts from (from + 1 + 1) at (type_breaks ts limits x d) (omega arith) (ordered_type x d).all
