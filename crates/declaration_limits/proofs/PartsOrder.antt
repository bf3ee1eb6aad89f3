-- Of what a part of a declaration breaks the first goes first.
use Rattle.std.proofs.Common.{ℕ, suc, ◌+◌, ◌<◌, List, ◌++◌, length, Option, arith}
use Rattle.std.specs.Prelude.{nat_le, nat_lt}
use Rattle.slang_names.specs.declared.places.Place.{Place}
use Rattle.slang_names.specs.declared.places.Mode.{Mode}
use Rattle.slang_tree.specs.declared.types.Identifier.{Identifier}
use Rattle.slang_tree.specs.declared.types.TypeTree.{TypeTree}
use Rattle.slang_tree.specs.declared.declarations.GenericParameter.{GenericParameter}
use Rattle.slang_tree.specs.declared.declarations.Constraint.{Constraint}
use Rattle.slang_tree.specs.declared.declarations.Parameter.{Parameter}
use Rattle.slang_reading.specs.Lexed.{Lexed}
use Rattle.slang_grammar.specs.Descent.{Limits}
use Rattle.declaration_grammar.specs.Parts as t
use Rattle.declaration_grammar.specs.Parts.{NamesAt, GenericParameterAt, MoreGenericsAt, GenericsAt, HeadsAt, ConstraintAt, ConstraintsAt, PassedAt, SemanticAt, ParameterAt, MoreParametersAt, ParametersAt}
use Rattle.expression_limits.specs.Breaks.{name_there}
use Rattle.expression_limits.proofs.Moves.{type_moves}
use Rattle.statement_limits.specs.Locals.{declared_breaks}
use Rattle.statement_limits.proofs.Order.{Late, late_append, far, Known, known_none, known_wider, known_append, known_long, known_name}
use Rattle.statement_limits.proofs.Late.{late_long, late_type, known_type}
use Rattle.statement_limits.proofs.LocalsOrder.{known_declared}
use Rattle.declaration_limits.specs.Parts.{names_breaks, generic_breaks, generic_behind, more_generics_breaks, generics_breaks, heads_breaks, constraint_breaks, constraints_breaks, passed_breaks, semantic_breaks, parameter_behind, more_parameters_breaks, parameters_breaks}

module _ (ts : List Lexed) (limits : Limits) where
  -- a name that stands there
  pub known_named : (id : Identifier) (at : ℕ) → Known ts at (at + 1) (name_there ts limits id at)
  known_named id at = known_name ts at (nat_le (length id.name) limits.names)

  -- ---- names behind commas

  pub known_more_names : {xs ys : List Identifier} {p q : Place} {from to : ℕ} → (s : NamesAt ts xs ys p q from to) → Known ts from to (names_breaks ts limits s)
  known_more_names {from = from} {to = to} (t.end n) = known_none ts from to (omega arith)
  known_more_names {from = from} {to = to} (t.more {id = id} s n r) =
      known_append ts from (from + 1 + 1) to (known_wider ts (from + 1) (from + 1 + 1) from (from + 1 + 1) (omega arith) (omega arith) (known_named id (from + 1))) (known_more_names r)

  -- ---- generic parameters

  known_generic : {x : GenericParameter} {from to : ℕ} → (s : GenericParameterAt ts x from to) → Known ts from to (generic_breaks ts limits s)
  known_generic {from = from} (t.plain {id = id} n c) = known_named id from
  known_generic {from = from} {to = to} (t.bounded {id = id} {bound = bound} n c b) =
      known_append ts from (from + 1) to (known_named id from) (known_wider ts (from + 1 + 1) (from + 1 + 1 + 1) (from + 1) to (omega arith) (omega arith) (known_named bound (from + 1 + 1)))
  known_generic {from = from} {to = to} (t.number {id = id} s n c i) = known_wider ts (from + 1) (from + 1 + 1) from to (omega arith) (omega arith) (known_named id (from + 1))

  late_generic : {x : GenericParameter} {from to : ℕ} → (s : GenericParameterAt ts x from to) → Late from (generic_breaks ts limits s)
  late_generic {from = from} (t.plain {id = id} n c) = late_long ts from from (nat_le (length id.name) limits.names)
  late_generic {from = from} (t.bounded {id = id} {bound = bound} n c b) =
      late_append from (name_there ts limits id from) (name_there ts limits bound (from + 1 + 1)) (late_long ts from from (nat_le (length id.name) limits.names)) (late_long ts from (from + 1 + 1) (nat_le (length bound.name) limits.names))
  late_generic {from = from} (t.number {id = id} s n c i) = late_long ts from (from + 1) (nat_le (length id.name) limits.names)

  generic_moves : {x : GenericParameter} {from to : ℕ} → GenericParameterAt ts x from to → from < to
  generic_moves (t.plain n c) = omega arith
  generic_moves (t.bounded n c b) = omega arith
  generic_moves (t.number s n c i) = omega arith

  known_generic_behind : {x : GenericParameter} {from to : ℕ} → (s : GenericParameterAt ts x from to) → (count : ℕ) → Known ts from to (generic_behind ts limits s count)
  known_generic_behind {from = from} {to = to} s count = known_long ts from to (nat_lt count limits.items) (generic_moves s) (known_generic s) (late_generic s)

  known_more_generics : {xs ys : List GenericParameter} {from to : ℕ} → (s : MoreGenericsAt ts xs ys from to) → Known ts from to (more_generics_breaks ts limits s)
  known_more_generics {from = from} {to = to} t.end = known_none ts from to (omega arith)
  known_more_generics {xs = xs} {from = from} {to = to} (t.more {mid = mid} s v r) =
      known_append ts from mid to (known_wider ts (from + 1) mid from mid (omega arith) (omega arith) (known_generic_behind v (length xs))) (known_more_generics r)

  pub known_generics : {all : List GenericParameter} {from to : ℕ} → (s : GenericsAt ts all from to) → Known ts from to (generics_breaks ts limits s)
  known_generics {from = from} {to = to} (t.no_generics n) = known_none ts from to (omega arith)
  known_generics {from = from} (t.generics {mid = mid} {at = at} o v r c) =
      known_append ts from mid (at + 1) (known_wider ts (from + 1) mid from mid (omega arith) (omega arith) (known_generic_behind v 0))
      (known_wider ts mid at mid (at + 1) (omega arith) (omega arith) (known_more_generics r))

  -- ---- heads and constraints

  pub known_heads : {all : List Identifier} {from to : ℕ} → (s : HeadsAt ts all from to) → Known ts from to (heads_breaks ts limits s)
  known_heads {from = from} {to = to} (t.no_heads n) = known_none ts from to (omega arith)
  known_heads {from = from} {to = to} (t.heads {id = id} o n r) =
      known_append ts from (from + 1 + 1) to (known_wider ts (from + 1) (from + 1 + 1) from (from + 1 + 1) (omega arith) (omega arith) (known_named id (from + 1))) (known_more_names r)

  known_constraint : {x : Constraint} {from to : ℕ} → (s : ConstraintAt ts x from to) → Known ts from to (constraint_breaks ts limits s)
  known_constraint {from = from} {to = to} (t.constraint {subject = subject} {id = id} o n c i r) =
      let last = from + 1 + 1 + 1 + 1 in
      known_append ts from (from + 1 + 1) to (known_wider ts (from + 1) (from + 1 + 1) from (from + 1 + 1) (omega arith) (omega arith) (known_named subject (from + 1)))
      (known_append ts (from + 1 + 1) last to (known_wider ts (from + 1 + 1 + 1) last (from + 1 + 1) last (omega arith) (omega arith) (known_named id (from + 1 + 1 + 1))) (known_more_names r))

  pub known_constraints : {xs ys : List Constraint} {from to : ℕ} → (s : ConstraintsAt ts xs ys from to) → Known ts from to (constraints_breaks ts limits s)
  known_constraints {from = from} {to = to} (t.end n) = known_none ts from to (omega arith)
  known_constraints {from = from} {to = to} (t.more {mid = mid} v r) = known_append ts from mid to (known_constraint v) (known_constraints r)

  -- ---- parameters, with room for a node

  known_semantic : {x : Option Identifier} {p q : Place} {from to : ℕ} → (s : SemanticAt ts x p q from to) → Known ts from to (semantic_breaks ts limits s)
  known_semantic {from = from} {to = to} (t.no_semantic n) = known_none ts from to (omega arith)
  known_semantic {from = from} {to = to} (t.semantic {id = id} c n) = known_wider ts (from + 1) (from + 1 + 1) from to (omega arith) (omega arith) (known_named id (from + 1))

  module _ (d : ℕ) where
    known_passed : {how : Mode} {x : TypeTree} {p : Place} {from to : ℕ} → (s : PassedAt ts how x p from to) → Known ts from to (passed_breaks ts limits s (suc d))
    known_passed (t.plain r) = known_type ts limits r (suc d)
    known_passed {from = from} {to = to} (t.moded s q r) = known_wider ts (from + 1) to from to (omega arith) (omega arith) (known_type ts limits r (suc d))

    late_passed : {how : Mode} {x : TypeTree} {p : Place} {from to : ℕ} → (s : PassedAt ts how x p from to) → Late from (passed_breaks ts limits s (suc d))
    late_passed (t.plain r) = late_type ts limits r d
    late_passed {from = from} {to = to} (t.moded s q r) = far ts from (from + 1) to (omega arith) (known_type ts limits r (suc d))

    passed_moves : {how : Mode} {x : TypeTree} {p : Place} {from to : ℕ} → PassedAt ts how x p from to → from < to
    passed_moves (t.plain r) = type_moves ts r
    passed_moves (t.moded s q r) = let u = type_moves ts r in omega (arith, u)

    known_parameter_behind : {x : Parameter} {from to : ℕ} → (s : ParameterAt ts x from to) → (count : ℕ) → Known ts from to (parameter_behind ts limits s count (suc d))
    known_parameter_behind {from = from} {to = to} (t.parameter {mid = mid} {at = at} r v i) count =
        let u = passed_moves r in
        let rest = known_append ts mid at to (known_declared ts limits v) (known_semantic i) in
        let w = rest.goes in
        known_long ts from to (nat_lt count limits.items) (omega (arith, u, w)) (known_append ts from mid to (known_passed r) rest)
        (late_append from (passed_breaks ts limits r (suc d)) (declared_breaks ts limits v ++ semantic_breaks ts limits i) (late_passed r) (far ts from mid to u rest))

    known_more_parameters : {xs ys : List Parameter} {from to : ℕ} → (s : MoreParametersAt ts xs ys from to) → Known ts from to (more_parameters_breaks ts limits s (suc d))
    known_more_parameters {from = from} {to = to} t.end = known_none ts from to (omega arith)
    known_more_parameters {xs = xs} {from = from} {to = to} (t.more {mid = mid} s v r) =
        known_append ts from mid to (known_wider ts (from + 1) mid from mid (omega arith) (omega arith) (known_parameter_behind v (length xs))) (known_more_parameters r)

    pub known_parameters : {all : List Parameter} {from to : ℕ} → (s : ParametersAt ts all from to) → Known ts from to (parameters_breaks ts limits s (suc d))
    known_parameters {from = from} {to = to} (t.no_parameters o c) = known_none ts from to (omega arith)
    known_parameters {from = from} (t.parameters {mid = mid} {at = at} o v r c) =
        known_append ts from mid (at + 1) (known_wider ts (from + 1) mid from mid (omega arith) (omega arith) (known_parameter_behind v 0))
        (known_wider ts mid at mid (at + 1) (omega arith) (omega arith) (known_more_parameters r))
