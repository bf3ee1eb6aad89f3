-- Of what a statement or a block breaks the first goes first.
use Rattle.std.proofs.Common.{ℕ, ◌+◌, List, [], Option, arith}
use Rattle.slang_names.specs.declared.places.Place.{Place}
use Rattle.slang_tree.specs.declared.expressions.ExprTree.{ExprTree}
use Rattle.slang_tree.specs.declared.statements.Change.{Change}
use Rattle.slang_tree.specs.declared.statements.LoopStart.{LoopStart}
use Rattle.slang_tree.specs.declared.statements.StatTree.{StatTree}
use Rattle.slang_tree.specs.declared.statements.Block.{Block}
use Rattle.slang_reading.specs.Lexed.{Lexed}
use Rattle.slang_grammar.specs.Descent.{Limits}
use Rattle.statement_grammar.specs.AttributesDescent.{loops}
use Rattle.statement_grammar.specs.Statements as t
use Rattle.statement_grammar.specs.Statements.{MaybeAt, StartAt, StepAt, HeadAt, ConditionAt, StatAt, StatsAt, BlockAt}
use Rattle.statement_fits.proofs.Moves.{stat_moves}
use Rattle.expression_limits.specs.Breaks.{inside}
use Rattle.statement_limits.specs.Statements.{maybe_breaks, start_breaks, step_breaks, head_breaks, condition_breaks, stat_breaks, stats_breaks, block_breaks}
use Rattle.statement_limits.proofs.Order.{Known, known_none, known_wider, known_append, known_node, known_arises}
use Rattle.statement_limits.proofs.Late.{known_expr}
use Rattle.statement_limits.proofs.LocalsOrder.{known_local, known_change}
use Rattle.statement_limits.proofs.AttributesOrder.{known_attributes}

module _ (ts : List Lexed) (limits : Limits) where
  -- ---- parts

  known_maybe : {x : Option ExprTree} {from to : ℕ} → (s : MaybeAt ts x from to) → (d : ℕ) → Known ts from to (maybe_breaks ts limits s d)
  known_maybe {from = from} {to = to} t.absent d = known_none ts from to (omega arith)
  known_maybe (t.present v) d = known_expr ts limits v d

  known_start : {x : LoopStart} {from to : ℕ} → (s : StartAt ts x from to) → (d : ℕ) → Known ts from to (start_breaks ts limits s d)
  known_start {from = from} {to = to} t.nothing d = known_none ts from to (omega arith)
  known_start (t.local r) d = known_local ts limits r d
  known_start (t.change r) d = known_change ts limits r d

  known_step : {x : Option Change} {from to : ℕ} → (s : StepAt ts x from to) → (d : ℕ) → Known ts from to (step_breaks ts limits s d)
  known_step {from = from} {to = to} t.absent d = known_none ts from to (omega arith)
  known_step (t.present r) d = known_change ts limits r d

  known_head : {x : LoopStart} {y : Option ExprTree} {z : Option Change} {from to : ℕ} → (s : HeadAt ts x y z from to) → (d : ℕ) → Known ts from to (head_breaks ts limits s d)
  known_head {from = from} (t.head {mid = mid} {at = at} {to = to} o i j v l n c) d =
      known_append ts from mid (to + 1) (known_wider ts (from + 1) mid from mid (omega arith) (omega arith) (known_start i d))
      (known_append ts mid at (to + 1) (known_wider ts (mid + 1) at mid at (omega arith) (omega arith) (known_maybe v d))
      (known_wider ts (at + 1) to at (to + 1) (omega arith) (omega arith) (known_step n d)))

  known_condition : {x : ExprTree} {from to : ℕ} → (s : ConditionAt ts x from to) → (d : ℕ) → Known ts from to (condition_breaks ts limits s d)
  known_condition {from = from} (t.condition {at = at} o v c) d = known_wider ts (from + 1) at from (at + 1) (omega arith) (omega arith) (known_expr ts limits v d)

  -- ---- statements

  mutual
    pub known_stat : {x : StatTree} {from to : ℕ} → (s : StatAt ts x from to) → (d : ℕ) → Known ts from to (stat_breaks ts limits s d)
    known_stat {from = from} {to = to} (t.block o r) d =
        known_node ts from to d (stat_moves ts (t.block o r)) (known_wider ts (from + 1) to from to (omega arith) (omega arith) (known_stats r (inside d)))
    known_stat {from = from} (t.local {at = at} r z) d =
        known_node ts from (at + 1) d (stat_moves ts (t.local r z)) (known_wider ts from at from (at + 1) (omega arith) (omega arith) (known_local ts limits r (inside d)))
    known_stat {from = from} (t.change {at = at} r z) d =
        known_node ts from (at + 1) d (stat_moves ts (t.change r z)) (known_wider ts from at from (at + 1) (omega arith) (omega arith) (known_change ts limits r (inside d)))
    known_stat {from = from} (t.empty o) d = known_arises ts from d
    known_stat {from = from} {to = to} (t.if_alone {mid = mid} o r v n) d =
        known_node ts from to d (stat_moves ts (t.if_alone o r v n))
        (known_append ts from mid to (known_wider ts (from + 1) mid from mid (omega arith) (omega arith) (known_condition r (inside d))) (known_stat v (inside d)))
    known_stat {from = from} {to = to} (t.if_else {mid = mid} {at = at} o r v c w) d =
        known_node ts from to d (stat_moves ts (t.if_else o r v c w))
        (known_append ts from mid to (known_wider ts (from + 1) mid from mid (omega arith) (omega arith) (known_condition r (inside d)))
        (known_append ts mid at to (known_stat v (inside d)) (known_wider ts (at + 1) to at to (omega arith) (omega arith) (known_stat w (inside d)))))
    known_stat {from = from} {to = to} (t.for_loop {mid = mid} {at = at} a o h v) d =
        known_node ts from to d (stat_moves ts (t.for_loop a o h v))
        (known_append ts from mid to (known_attributes ts limits loops a [])
        (known_append ts mid at to (known_wider ts (mid + 1) at mid at (omega arith) (omega arith) (known_head h (inside d))) (known_stat v (inside d))))
    known_stat {from = from} {to = to} (t.while_loop {mid = mid} {at = at} a o r v) d =
        known_node ts from to d (stat_moves ts (t.while_loop a o r v))
        (known_append ts from mid to (known_attributes ts limits loops a [])
        (known_append ts mid at to (known_wider ts (mid + 1) at mid at (omega arith) (omega arith) (known_condition r (inside d))) (known_stat v (inside d))))
    known_stat {from = from} (t.return_value {at = at} o v z) d =
        known_node ts from (at + 1) d (stat_moves ts (t.return_value o v z)) (known_wider ts (from + 1) at from (at + 1) (omega arith) (omega arith) (known_maybe v (inside d)))
    known_stat {from = from} (t.break_loop o z) d = known_wider ts from (from + 1) from (from + 1 + 1) (omega arith) (omega arith) (known_arises ts from d)
    known_stat {from = from} (t.continue_loop o z) d = known_wider ts from (from + 1) from (from + 1 + 1) (omega arith) (omega arith) (known_arises ts from d)

    pub known_stats : {xs ys : List StatTree} {p : Place} {from to : ℕ} → (s : StatsAt ts xs ys p from to) → (d : ℕ) → Known ts from to (stats_breaks ts limits s d)
    known_stats {from = from} {to = to} (t.end c) d = known_none ts from to (omega arith)
    known_stats {from = from} {to = to} (t.more {mid = mid} v r) d = known_append ts from mid to (known_stat v d) (known_stats r d)

  pub known_block : {x : Block} {from to : ℕ} → (s : BlockAt ts x from to) → (d : ℕ) → Known ts from to (block_breaks ts limits s d)
  known_block {from = from} {to = to} (t.block o r) d =
      let k = known_stats r (inside d) in
      let u = k.goes in
      known_node ts from to d (omega (arith, u)) (known_wider ts (from + 1) to from to (omega arith) (omega arith) k)
