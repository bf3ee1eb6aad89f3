-- Of what locals and changes break the first goes first.
use Rattle.std.proofs.Common.{ℕ, suc, ◌+◌, ◌≤◌, List, length, Option, arith}
use Rattle.std.specs.Prelude.{nat_le}
use Rattle.slang_names.specs.declared.places.Place.{Place}
use Rattle.slang_tree.specs.declared.types.Term.{Term}
use Rattle.slang_tree.specs.declared.expressions.BinaryOperator.{BinaryOperator}
use Rattle.slang_tree.specs.declared.statements.DeclaredName.{DeclaredName}
use Rattle.slang_tree.specs.declared.statements.Initializer.{Initializer}
use Rattle.slang_tree.specs.declared.statements.ListTree.{ListTree}
use Rattle.slang_tree.specs.declared.statements.LocalName.{LocalName}
use Rattle.slang_tree.specs.declared.statements.Local.{Local}
use Rattle.slang_tree.specs.declared.statements.Change.{Change}
use Rattle.slang_reading.specs.Lexed.{Lexed}
use Rattle.slang_grammar.specs.Descent.{Limits}
use Rattle.statement_grammar.specs.Statements as t
use Rattle.statement_grammar.specs.Statements.{LengthsAt, DeclaredNameAt, InitializerAt, ListAt, MoreItemsAt, LocalNameAt, MoreLocalNamesAt, LocalAt, AssignAt, ChangeAt}
use Rattle.expression_limits.specs.Breaks.{inside}
use Rattle.statement_limits.specs.Locals.{lengths_breaks, declared_breaks, initial_breaks, list_breaks, more_items_breaks, local_name_breaks, more_names_breaks, local_breaks, change_breaks}
use Rattle.statement_limits.proofs.Locals.{initializer_moves}
use Rattle.statement_limits.proofs.Order.{Late, late_none, far, Known, known_none, known_wider, known_append, known_node, known_arises, known_name, known_item}
use Rattle.statement_limits.proofs.Late.{late_expr, known_term, known_type, known_expr, known_postfix}

module _ (ts : List Lexed) (limits : Limits) where
  -- ---- declared names

  pub known_lengths : {xs ys : List Term} {p q : Place} {from to : ℕ} → (s : LengthsAt ts xs ys p q from to) → Known ts from to (lengths_breaks ts limits s)
  known_lengths {from = from} {to = to} (t.end n) = known_none ts from to (omega arith)
  known_lengths {from = from} {to = to} (t.more s x c r) =
      known_append ts from (from + 1 + 1 + 1) to (known_wider ts (from + 1) (from + 1 + 1) from (from + 1 + 1 + 1) (omega arith) (omega arith) (known_term ts limits x)) (known_lengths r)

  pub known_declared : {x : DeclaredName} {end : Place} {from to : ℕ} → (s : DeclaredNameAt ts x end from to) → Known ts from to (declared_breaks ts limits s)
  known_declared {from = from} {to = to} (t.declared_name {id = id} s r) = known_append ts from (from + 1) to (known_name ts from (nat_le (length id.name) limits.names)) (known_lengths r)

  -- ---- what locals begin with

  mutual
    pub known_initial : {x : Initializer} {end : Place} {from to : ℕ} → (s : InitializerAt ts x end from to) → (d : ℕ) → Known ts from to (initial_breaks ts limits s d)
    known_initial (t.expression v) d = known_expr ts limits v d
    known_initial (t.braces l) d = known_list l d

    known_list : {x : ListTree} {from to : ℕ} → (s : ListAt ts x from to) → (d : ℕ) → Known ts from to (list_breaks ts limits s d)
    known_list {from = from} (t.no_items s c) d = known_wider ts from (from + 1) from (from + 1 + 1) (omega arith) (omega arith) (known_arises ts from d)
    known_list {from = from} (t.items {mid = mid} {at = at} s v r c) d =
        let one = known_item ts limits 0 (from + 1) mid (inside d) (initial_breaks ts limits v) (initializer_moves ts v) (λ e. known_initial v e) (λ e. late_initial v e) in
        let k = known_append ts (from + 1) mid at one (known_items r (inside d)) in
        let u = k.goes in
        known_node ts from (at + 1) d (omega (arith, u)) (known_wider ts (from + 1) at from (at + 1) (omega arith) (omega arith) k)

    known_items : {xs ys : List Initializer} {from to : ℕ} → (s : MoreItemsAt ts xs ys from to) → (d : ℕ) → Known ts from to (more_items_breaks ts limits s d)
    known_items {from = from} {to = to} t.end d = known_none ts from to (omega arith)
    known_items {xs = xs} {from = from} {to = to} (t.more {mid = mid} s v r) d =
        let one = known_item ts limits (length xs) (from + 1) mid d (initial_breaks ts limits v) (initializer_moves ts v) (λ e. known_initial v e) (λ e. late_initial v e) in
        known_append ts from mid to (known_wider ts (from + 1) mid from mid (omega arith) (omega arith) one) (known_items r d)

    -- with room for a node, none is too deep at the first token
    late_initial : {x : Initializer} {end : Place} {from to : ℕ} → (s : InitializerAt ts x end from to) → (d : ℕ) → Late from (initial_breaks ts limits s (suc d))
    late_initial (t.expression v) d = late_expr ts limits v d
    late_initial (t.braces l) d = late_list l d

    late_list : {x : ListTree} {from to : ℕ} → (s : ListAt ts x from to) → (d : ℕ) → Late from (list_breaks ts limits s (suc d))
    late_list {from = from} (t.no_items s c) d = late_none from
    late_list {from = from} (t.items {mid = mid} {at = at} s v r c) d =
        let one = known_item ts limits 0 (from + 1) mid d (initial_breaks ts limits v) (initializer_moves ts v) (λ e. known_initial v e) (λ e. late_initial v e) in
        far ts from (from + 1) at (omega arith) (known_append ts (from + 1) mid at one (known_items r d))

  -- ---- locals

  pub known_local_name : {x : LocalName} {end : Place} {from to : ℕ} → (s : LocalNameAt ts x end from to) → (d : ℕ) → Known ts from to (local_name_breaks ts limits s d)
  known_local_name (t.alone r n) d = known_declared r
  known_local_name {from = from} {to = to} (t.begun {mid = mid} r s v) d =
      known_append ts from mid to (known_declared r) (known_wider ts (mid + 1) to mid to (omega arith) (omega arith) (known_initial v d))

  pub known_names : {xs ys : List LocalName} {p q : Place} {from to : ℕ} → (s : MoreLocalNamesAt ts xs ys p q from to) → (d : ℕ) → Known ts from to (more_names_breaks ts limits s d)
  known_names {from = from} {to = to} (t.end n) d = known_none ts from to (omega arith)
  known_names {from = from} {to = to} (t.more {mid = mid} s v r) d =
      known_append ts from mid to (known_wider ts (from + 1) mid from mid (omega arith) (omega arith) (known_local_name v d)) (known_names r d)

  pub known_local : {x : Local} {from to : ℕ} → (s : LocalAt ts x from to) → (d : ℕ) → Known ts from to (local_breaks ts limits s d)
  known_local {from = from} {to = to} (t.variable {mid = mid} {at = at} r v n) d =
      known_append ts from mid to (known_type ts limits r d) (known_append ts mid at to (known_local_name v d) (known_names n d))
  known_local {from = from} {to = to} (t.constant {mid = mid} {at = at} s r v n) d =
      known_append ts from mid to (known_wider ts (from + 1) mid from mid (omega arith) (omega arith) (known_type ts limits r d))
      (known_append ts mid at to (known_local_name v d) (known_names n d))

  -- ---- changes

  assign_moves : {op : Option BinaryOperator} {from to : ℕ} → AssignAt ts op from to → from ≤ to
  assign_moves (t.assign s) = omega arith
  assign_moves (t.update s q) = omega arith
  assign_moves (t.shift_right s v j w l) = omega arith

  pub known_change : {x : Change} {from to : ℕ} → (s : ChangeAt ts x from to) → (d : ℕ) → Known ts from to (change_breaks ts limits s d)
  known_change {from = from} {to = to} (t.assignment {mid = mid} {at = at} r s v) d =
      known_append ts from mid to (known_postfix ts limits r d) (known_wider ts at to mid to (assign_moves s) (omega arith) (known_expr ts limits v d))
  known_change {from = from} {to = to} (t.step_before s q r) d = known_wider ts (from + 1) to from to (omega arith) (omega arith) (known_postfix ts limits r d)
  known_change {from = from} (t.step_behind {at = at} r s q) d = known_wider ts from at from (at + 1) (omega arith) (omega arith) (known_postfix ts limits r d)
  known_change (t.call r q) d = known_postfix ts limits r d
