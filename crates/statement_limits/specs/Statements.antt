-- The limits and rules on attributes that a statement breaks, in the order of the tokens at which that is known, where at
-- most d nodes may still stand on a path.
use Rattle.std.specs.Prelude.{ℕ, List, [], ◌++◌, Option}
use Rattle.slang_tree.specs.declared.expressions.ExprTree.{ExprTree}
use Rattle.slang_tree.specs.declared.statements.Change.{Change}
use Rattle.slang_tree.specs.declared.statements.LoopStart.{LoopStart}
use Rattle.slang_tree.specs.declared.statements.StatTree.{StatTree}
use Rattle.slang_tree.specs.declared.statements.Block.{Block}
use Rattle.slang_reading.specs.Lexed.{Lexed}
use Rattle.slang_reading.specs.Reading.{first}
use Rattle.slang_grammar.specs.Descent.{Limits}
use Rattle.statement_grammar.specs.AttributesDescent.{loops}
use Rattle.statement_grammar.specs.Statements as t
use Rattle.statement_grammar.specs.Statements.{MaybeAt, StartAt, StepAt, HeadAt, ConditionAt, StatAt, StatsAt, BlockAt}
use Rattle.expression_limits.specs.Breaks.{Break, inside, arises}
use Rattle.expression_limits.specs.Expressions.{expr_breaks}
use Rattle.statement_limits.specs.Attributes.{attributes_breaks}
use Rattle.statement_limits.specs.Locals.{local_breaks, change_breaks}

module _ (ts : List Lexed) (limits : Limits) where
  -- ---- parts

  abbrev pub maybe_breaks : {x : Option ExprTree} {from to : ℕ} → MaybeAt ts x from to → ℕ → List Break
  maybe_breaks t.absent d = []
  maybe_breaks (t.present v) d = expr_breaks ts limits v d

  abbrev pub start_breaks : {x : LoopStart} {from to : ℕ} → StartAt ts x from to → ℕ → List Break
  start_breaks t.nothing d = []
  start_breaks (t.local r) d = local_breaks ts limits r d
  start_breaks (t.change r) d = change_breaks ts limits r d

  abbrev pub step_breaks : {x : Option Change} {from to : ℕ} → StepAt ts x from to → ℕ → List Break
  step_breaks t.absent d = []
  step_breaks (t.present r) d = change_breaks ts limits r d

  abbrev pub head_breaks : {x : LoopStart} {y : Option ExprTree} {z : Option Change} {from to : ℕ} → HeadAt ts x y z from to → ℕ → List Break
  head_breaks (t.head o i j v l n c) d = start_breaks i d ++ (maybe_breaks v d ++ step_breaks n d)

  abbrev pub condition_breaks : {x : ExprTree} {from to : ℕ} → ConditionAt ts x from to → ℕ → List Break
  condition_breaks (t.condition o v c) d = expr_breaks ts limits v d

  -- ---- statements, which arise at their first tokens

  abbrev mutual
    pub stat_breaks : {x : StatTree} {from to : ℕ} → StatAt ts x from to → ℕ → List Break
    stat_breaks {from = from} (t.block o r) d = arises ts from d ++ stats_breaks r (inside d)
    stat_breaks {from = from} (t.local r z) d = arises ts from d ++ local_breaks ts limits r (inside d)
    stat_breaks {from = from} (t.change r z) d = arises ts from d ++ change_breaks ts limits r (inside d)
    stat_breaks {from = from} (t.empty o) d = arises ts from d
    stat_breaks {from = from} (t.if_alone o r v n) d = arises ts from d ++ (condition_breaks r (inside d) ++ stat_breaks v (inside d))
    stat_breaks {from = from} (t.if_else o r v c w) d =
        arises ts from d ++ (condition_breaks r (inside d) ++ (stat_breaks v (inside d) ++ stat_breaks w (inside d)))
    stat_breaks {from = from} (t.for_loop a o h v) d =
        arises ts from d ++ (attributes_breaks ts limits loops a [] ++ (head_breaks h (inside d) ++ stat_breaks v (inside d)))
    stat_breaks {from = from} (t.while_loop a o r v) d =
        arises ts from d ++ (attributes_breaks ts limits loops a [] ++ (condition_breaks r (inside d) ++ stat_breaks v (inside d)))
    stat_breaks {from = from} (t.return_value o v z) d = arises ts from d ++ maybe_breaks v (inside d)
    stat_breaks {from = from} (t.break_loop o z) d = arises ts from d
    stat_breaks {from = from} (t.continue_loop o z) d = arises ts from d

    -- statements up to a closing brace
    pub stats_breaks : {xs ys : List StatTree} {p : _} {from to : ℕ} → StatsAt ts xs ys p from to → ℕ → List Break
    stats_breaks (t.end c) d = []
    stats_breaks (t.more v r) d = stat_breaks v d ++ stats_breaks r d

  -- the body of a function arises at its brace
  abbrev pub block_breaks : {x : Block} {from to : ℕ} → BlockAt ts x from to → ℕ → List Break
  block_breaks {from = from} (t.block o r) d = arises ts from d ++ stats_breaks r (inside d)

  -- the first of them
  abbrev pub stat_break : {x : StatTree} {from to : ℕ} → StatAt ts x from to → ℕ → Option Break
  stat_break s d = first (stat_breaks s d)

  abbrev pub block_break : {x : Block} {from to : ℕ} → BlockAt ts x from to → ℕ → Option Break
  block_break s d = first (block_breaks s d)
