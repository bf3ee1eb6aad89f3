-- Of the limits that an expression breaks the first goes first.
use Rattle.std.proofs.Common.{ℕ, suc, ◌+◌, ◌<◌, ◌≤◌, List, ◌++◌, length, arith}
use Rattle.std.specs.Prelude.{nat_le, nat_lt}
use Rattle.slang_names.specs.declared.places.Place.{Place}
use Rattle.slang_tree.specs.declared.types.Identifier.{Identifier}
use Rattle.slang_tree.specs.declared.types.GenericArgument.{GenericArgument}
use Rattle.slang_tree.specs.declared.expressions.ExprTree.{ExprTree}
use Rattle.slang_reading.specs.Lexed.{Lexed}
use Rattle.slang_grammar.specs.Expressions as ex
use Rattle.slang_grammar.specs.Expressions.{NameAt, ExprAt, LevelAt, BinaryAt, UnaryAt, PostfixAt, ChainAt, ValuesAt, MoreValuesAt, PrimaryAt}
use Rattle.slang_grammar.specs.Descent.{Limits}
use Rattle.expression_grammar.specs.Heights.{expr_height}
use Rattle.expression_limits.specs.Breaks.{Break, inside, arises_over, item_with, name_there}
use Rattle.expression_limits.specs.Expressions.{given_breaks, name_breaks, expr_breaks, level_breaks, binary_breaks, unary_breaks, postfix_breaks, chain_breaks, values_breaks, more_values_breaks, primary_breaks}
use Rattle.expression_limits.proofs.Moves.{name_moves, operator_moves, expr_moves, level_moves, binary_moves, unary_moves, primary_moves, chain_moves, values_move, more_values_move}
use Rattle.expression_limits.proofs.Order.{Ordered, Late, ordered_none, ordered_wider, far, late_append, late_none, late_long, ordered_append, ordered_node, ordered_arises, ordered_over, ordered_name, ordered_item}
use Rattle.expression_limits.proofs.TypesOrder.{ordered_arguments}

module _ (ts : List Lexed) (limits : Limits) where
  ordered_given : {id : Identifier} {args : List GenericArgument} {end : Place} {from to : ℕ} → (s : NameAt ts id args end from to) → (d : ℕ) → Ordered ts (from + 1) to (given_breaks ts limits s d)
  ordered_given {from = from} (ex.alone i none) d = ordered_none ts (from + 1) (from + 1)
  ordered_given (ex.generic i a f) d = ordered_arguments ts limits a d

  ordered_named : {id : Identifier} {args : List GenericArgument} {end : Place} {from to : ℕ} → (s : NameAt ts id args end from to) → (d : ℕ) → Ordered ts from to (name_breaks ts limits s d)
  ordered_named {id = id} {from = from} {to = to} s d =
      let u = name_moves ts s in
      ordered_append ts from (from + 1) to (name_there ts limits id from) (given_breaks ts limits s (inside d)) (omega arith) (omega (arith, u)) (ordered_name ts from (nat_le (length id.name) limits.names)) (ordered_given s (inside d))

  -- a node over what stands before it, and its other parts
  ordered_joined : (from mid to height d : ℕ) (bs : List Break) → from < mid → mid ≤ to → Ordered ts mid to bs → Ordered ts from to (arises_over ts height from d ++ bs)
  ordered_joined from mid to height d bs l h o =
      ordered_append ts from (from + 1) to (arises_over ts height from d) bs (omega arith) (omega (arith, l, h)) (ordered_over ts from (nat_lt height d)) (ordered_wider ts mid to (from + 1) to bs (omega (arith, l)) (omega arith) o)

  mutual
    pub ordered_expr : {x : ExprTree} {from to : ℕ} → (s : ExprAt ts x from to) → (d : ℕ) → Ordered ts from to (expr_breaks ts limits s d)
    ordered_expr (ex.plain v) d = ordered_level v d
    ordered_expr {from = from} {to = to} (ex.choice {mid = mid} {at = at} {x = x} v s y c z) d =
        let l = level_moves ts v in
        let u = expr_moves ts y in
        let w = expr_moves ts z in
        let one = expr_breaks ts limits y (inside d) in
        let other = expr_breaks ts limits z (inside d) in
        ordered_append ts from mid to (level_breaks ts limits v d) (arises_over ts (expr_height x) mid d ++ (one ++ other)) (omega (arith, l)) (omega (arith, u, w)) (ordered_level v d)
        (ordered_joined mid (mid + 1) to (expr_height x) d (one ++ other) (omega arith) (omega (arith, u, w))
        (ordered_append ts (mid + 1) at to one other (omega (arith, u)) (omega (arith, w)) (ordered_expr y (inside d))
        (ordered_wider ts (at + 1) to at to other (omega arith) (omega arith) (ordered_expr z (inside d)))))

    ordered_level : {l : ℕ} {x : ExprTree} {from to : ℕ} → (s : LevelAt ts l x from to) → (d : ℕ) → Ordered ts from to (level_breaks ts limits s d)
    ordered_level (ex.unary u) d = ordered_unary u d
    ordered_level {from = from} {to = to} (ex.binary {mid = mid} v b) d =
        let u = level_moves ts v in
        ordered_append ts from mid to (level_breaks ts limits v d) (binary_breaks ts limits b d) (omega (arith, u)) (binary_moves ts b) (ordered_level v d) (ordered_binary b d)

    ordered_binary : {l : ℕ} {x y : ExprTree} {from to : ℕ} → (s : BinaryAt ts l x y from to) → (d : ℕ) → Ordered ts from to (binary_breaks ts limits s d)
    ordered_binary {from = from} {to = to} ex.operand d = ordered_none ts from to
    ordered_binary {x = x} {from = from} {to = to} (ex.operator {mid = mid} {at = at} s e v b) d =
        let u = operator_moves ts s in
        let w = level_moves ts v in
        let right = level_breaks ts limits v (inside d) in
        ordered_append ts from at to (arises_over ts (expr_height x) from d ++ right) (binary_breaks ts limits b d) (omega (arith, u, w)) (binary_moves ts b)
        (ordered_joined from mid at (expr_height x) d right u (omega (arith, w)) (ordered_level v (inside d))) (ordered_binary b d)

    ordered_unary : {x : ExprTree} {from to : ℕ} → (s : UnaryAt ts x from to) → (d : ℕ) → Ordered ts from to (unary_breaks ts limits s d)
    ordered_unary (ex.simple p) d = ordered_postfix p d
    ordered_unary {from = from} {to = to} (ex.prefix s e u) d =
        let w = unary_moves ts u in
        let bs = unary_breaks ts limits u (inside d) in
        ordered_node ts from to d bs (omega (arith, w)) (ordered_wider ts (from + 1) to from to bs (omega arith) (omega arith) (ordered_unary u (inside d)))
    ordered_unary {from = from} {to = to} (ex.cast s t e r u) d =
        let w = unary_moves ts u in
        let bs = unary_breaks ts limits u (inside d) in
        ordered_node ts from to d bs (omega (arith, w)) (ordered_wider ts (from + 1 + 1 + 1) to from to bs (omega arith) (omega arith) (ordered_unary u (inside d)))

    ordered_postfix : {x : ExprTree} {from to : ℕ} → (s : PostfixAt ts x from to) → (d : ℕ) → Ordered ts from to (postfix_breaks ts limits s d)
    ordered_postfix {from = from} {to = to} (ex.postfix {mid = mid} p c) d =
        let u = primary_moves ts p in
        ordered_append ts from mid to (primary_breaks ts limits p d) (chain_breaks ts limits c d) (omega (arith, u)) (chain_moves ts c) (ordered_primary p d) (ordered_chain c d)

    ordered_chain : {x y : ExprTree} {from to : ℕ} → (s : ChainAt ts x y from to) → (d : ℕ) → Ordered ts from to (chain_breaks ts limits s d)
    ordered_chain {from = from} {to = to} ex.whole d = ordered_none ts from to
    ordered_chain {x = x} {from = from} {to = to} (ex.member {mid = mid} s n c) d =
        let u = name_moves ts n in
        let name = name_breaks ts limits n d in
        ordered_append ts from mid to (arises_over ts (expr_height x) from d ++ name) (chain_breaks ts limits c d) (omega (arith, u)) (chain_moves ts c)
        (ordered_joined from (from + 1) mid (expr_height x) d name (omega arith) (omega (arith, u)) (ordered_named n d)) (ordered_chain c d)
    ordered_chain {x = x} {from = from} {to = to} (ex.index {at = at} s i r c) d =
        let u = expr_moves ts i in
        let bs = expr_breaks ts limits i (inside d) in
        ordered_append ts from (at + 1) to (arises_over ts (expr_height x) from d ++ bs) (chain_breaks ts limits c d) (omega (arith, u)) (chain_moves ts c)
        (ordered_joined from (from + 1) (at + 1) (expr_height x) d bs (omega arith) (omega (arith, u)) (ordered_wider ts (from + 1) at (from + 1) (at + 1) bs (omega arith) (omega arith) (ordered_expr i (inside d)))) (ordered_chain c d)
    ordered_chain {x = x} {from = from} {to = to} (ex.call {mid = mid} s v c) d =
        let u = values_move ts v in
        let bs = values_breaks ts limits v (inside d) in
        ordered_append ts from mid to (arises_over ts (expr_height x) from d ++ bs) (chain_breaks ts limits c d) (omega (arith, u)) (chain_moves ts c)
        (ordered_joined from (from + 1) mid (expr_height x) d bs (omega arith) (omega (arith, u)) (ordered_values v (inside d))) (ordered_chain c d)

    ordered_values : {args : List ExprTree} {end : Place} {from to : ℕ} → (s : ValuesAt ts args end from to) → (d : ℕ) → Ordered ts from to (values_breaks ts limits s d)
    ordered_values {from = from} {to = to} (ex.no_values s) d = ordered_none ts from to
    ordered_values {from = from} (ex.values {mid = mid} {at = at} v r s) d =
        let u = expr_moves ts v in
        let w = more_values_move ts r in
        let one = item_with ts limits 0 from d (expr_breaks ts limits v d) in
        let more = more_values_breaks ts limits r d in
        ordered_append ts from mid (at + 1) one more (omega (arith, u)) (omega (arith, w)) (ordered_item ts limits 0 from mid d (expr_breaks ts limits v) u (λ e. ordered_expr v e) (λ e. late_expr v e))
        (ordered_wider ts mid at mid (at + 1) more (omega arith) (omega arith) (ordered_more r d))

    ordered_more : {xs ys : List ExprTree} {from to : ℕ} → (s : MoreValuesAt ts xs ys from to) → (d : ℕ) → Ordered ts from to (more_values_breaks ts limits s d)
    ordered_more {from = from} {to = to} ex.end d = ordered_none ts from to
    ordered_more {xs = xs} {from = from} {to = to} (ex.more {mid = mid} s v r) d =
        let u = expr_moves ts v in
        let one = item_with ts limits (length xs) (from + 1) d (expr_breaks ts limits v d) in
        ordered_append ts from mid to one (more_values_breaks ts limits r d) (omega (arith, u)) (more_values_move ts r)
        (ordered_wider ts (from + 1) mid from mid one (omega arith) (omega arith) (ordered_item ts limits (length xs) (from + 1) mid d (expr_breaks ts limits v) u (λ e. ordered_expr v e) (λ e. late_expr v e))) (ordered_more r d)

    ordered_primary : {x : ExprTree} {from to : ℕ} → (s : PrimaryAt ts x from to) → (d : ℕ) → Ordered ts from to (primary_breaks ts limits s d)
    ordered_primary {from = from} (ex.number s) d = ordered_arises ts from d
    ordered_primary {from = from} (ex.true_word s) d = ordered_arises ts from d
    ordered_primary {from = from} (ex.false_word s) d = ordered_arises ts from d
    ordered_primary {from = from} (ex.this_value s) d = ordered_arises ts from d
    ordered_primary {from = from} (ex.this_type s) d = ordered_arises ts from d
    ordered_primary {from = from} {to = to} (ex.name n) d = ordered_node ts from to d (name_breaks ts limits n d) (name_moves ts n) (ordered_named n d)
    ordered_primary {from = from} {to = to} (ex.construct s e o v) d =
        let u = values_move ts v in
        let bs = values_breaks ts limits v (inside d) in
        ordered_node ts from to d bs (omega (arith, u)) (ordered_wider ts (from + 1 + 1) to from to bs (omega arith) (omega arith) (ordered_values v (inside d)))
    ordered_primary {from = from} (ex.paren {at = at} s v r) d =
        let u = expr_moves ts v in
        let bs = expr_breaks ts limits v (inside d) in
        ordered_node ts from (at + 1) d bs (omega (arith, u)) (ordered_wider ts (from + 1) at from (at + 1) bs (omega arith) (omega arith) (ordered_expr v (inside d)))

    -- with room for a node, none is too deep at the first token
    late_expr : {x : ExprTree} {from to : ℕ} → (s : ExprAt ts x from to) → (d : ℕ) → Late ts from (expr_breaks ts limits s (suc d))
    late_expr (ex.plain v) d = late_level v d
    late_expr {from = from} {to = to} (ex.choice {mid = mid} {at = at} {x = x} v s y c z) d =
        let l = level_moves ts v in
        let u = expr_moves ts y in
        let w = expr_moves ts z in
        let over = arises_over ts (expr_height x) mid (suc d) in
        let one = expr_breaks ts limits y d in
        let other = expr_breaks ts limits z d in
        late_append ts from (level_breaks ts limits v (suc d)) (over ++ (one ++ other)) (late_level v d)
        (late_append ts from over (one ++ other) (far ts from mid (mid + 1) over l (ordered_over ts mid (nat_lt (expr_height x) (suc d))).all)
        (late_append ts from one other (far ts from (mid + 1) at one (omega (arith, l)) (ordered_expr y d).all) (far ts from (at + 1) to other (omega (arith, l, u)) (ordered_expr z d).all)))

    late_level : {l : ℕ} {x : ExprTree} {from to : ℕ} → (s : LevelAt ts l x from to) → (d : ℕ) → Late ts from (level_breaks ts limits s (suc d))
    late_level (ex.unary u) d = late_unary u d
    late_level {from = from} {to = to} (ex.binary {mid = mid} v b) d =
        late_append ts from (level_breaks ts limits v (suc d)) (binary_breaks ts limits b (suc d)) (late_level v d) (far ts from mid to (binary_breaks ts limits b (suc d)) (level_moves ts v) (ordered_binary b (suc d)).all)

    late_unary : {x : ExprTree} {from to : ℕ} → (s : UnaryAt ts x from to) → (d : ℕ) → Late ts from (unary_breaks ts limits s (suc d))
    late_unary {from = from} {to = to} (ex.simple (ex.postfix {mid = mid} p c)) d =
        late_append ts from (primary_breaks ts limits p (suc d)) (chain_breaks ts limits c (suc d)) (late_primary p d) (far ts from mid to (chain_breaks ts limits c (suc d)) (primary_moves ts p) (ordered_chain c (suc d)).all)
    late_unary {from = from} {to = to} (ex.prefix s e u) d = far ts from (from + 1) to (unary_breaks ts limits u d) (omega arith) (ordered_unary u d).all
    late_unary {from = from} {to = to} (ex.cast s t e r u) d = far ts from (from + 1 + 1 + 1) to (unary_breaks ts limits u d) (omega arith) (ordered_unary u d).all

    late_primary : {x : ExprTree} {from to : ℕ} → (s : PrimaryAt ts x from to) → (d : ℕ) → Late ts from (primary_breaks ts limits s (suc d))
    late_primary {from = from} (ex.number s) d = late_none ts from
    late_primary {from = from} (ex.true_word s) d = late_none ts from
    late_primary {from = from} (ex.false_word s) d = late_none ts from
    late_primary {from = from} (ex.this_value s) d = late_none ts from
    late_primary {from = from} (ex.this_type s) d = late_none ts from
    late_primary {from = from} {to = to} (ex.name {id = id} n) d =
        late_append ts from (name_there ts limits id from) (given_breaks ts limits n d) (late_long ts from (nat_le (length id.name) limits.names)) (far ts from (from + 1) to (given_breaks ts limits n d) (omega arith) (ordered_given n d).all)
    late_primary {from = from} {to = to} (ex.construct s e o v) d = far ts from (from + 1 + 1) to (values_breaks ts limits v d) (omega arith) (ordered_values v d).all
    late_primary {from = from} (ex.paren {at = at} s v r) d = far ts from (from + 1) at (expr_breaks ts limits v d) (omega arith) (ordered_expr v d).all
