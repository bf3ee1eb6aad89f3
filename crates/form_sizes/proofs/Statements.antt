-- What is counted of statements is at most the bytes of the tokens that spell them.
use Rattle.std.proofs.Common.{ℕ, ◌+◌, ◌≤◌, List, [], ◌∷◌, Option, Some, None, arith}
use Rattle.std.specs.List.{sum_by}
use Rattle.std.proofs.lemmas.List.Sums.{sum_by-cons, sum_by-append}
use Rattle.slang_names.specs.declared.places.Place.{Place}
use Rattle.slang_tree.specs.declared.expressions.BinaryOperator.{BinaryOperator}
use Rattle.slang_tree.specs.declared.expressions.ExprTree.{ExprTree}
use Rattle.slang_tree.specs.declared.statements.Change.{Change}
use Rattle.slang_tree.specs.declared.statements.ChangeNode.{ChangeNode}
use Rattle.slang_tree.specs.declared.statements.ChangeNode.TheVariants as c
use Rattle.slang_tree.specs.declared.statements.StatTree.{StatTree}
use Rattle.slang_tree.specs.declared.statements.StatNode.{StatNode}
use Rattle.slang_tree.specs.declared.statements.StatNode.TheVariants as s
use Rattle.slang_tree.specs.declared.statements.Block.{Block}
use Rattle.slang_reading.specs.Lexed.{Lexed}
use Rattle.statement_grammar.specs.Statements as t
use Rattle.statement_grammar.specs.Statements.{assigned, AssignAt, ChangeAt, StatAt, StatsAt, BlockAt}
use Rattle.statement_fits.proofs.Moves.{postfix_moves, stat_moves}
use Rattle.form_sizes.proofs.Tokens.{behind, behind_less, Sized, stands_has}
use Rattle.form_sizes.proofs.Weights.{weight}
use Rattle.form_sizes.proofs.Expressions.{expr_bytes, postfix_bytes}

-- ---- what is counted: assignments

abbrev pub change_weight : ChangeNode → ℕ
change_weight (c.Assign x y) = weight x + 1 + weight y
change_weight _ = 0

-- with the semicolon
abbrev pub stat_node_weight : StatNode → ℕ
stat_node_weight (s.Change x) = change_weight x.node + 1
stat_node_weight _ = 0

abbrev pub stat_weight : StatTree → ℕ
stat_weight x = stat_node_weight x.node

assigned_weight : (op : Option BinaryOperator) (x y : ExprTree) → change_weight (assigned op x y) ≤ weight x + 1 + weight y
assigned_weight None x y = omega arith
assigned_weight (Some op) x y = omega arith

module _ (ts : List Lexed) (sized : Sized ts) where
  assign_bytes : {op : Option BinaryOperator} {from to : ℕ} → AssignAt ts op from to → 1 + behind ts to ≤ behind ts from
  assign_bytes (t.assign s) = stands_has sized s
  assign_bytes (t.update s q) = stands_has sized s
  assign_bytes (t.shift_right s v j w l) = let a = stands_has sized s in let b = stands_has sized v in let d = stands_has sized w in omega (arith, a, b, d)

  change_bytes : {x : Change} {from to : ℕ} → ChangeAt ts x from to → change_weight x.node + behind ts to ≤ behind ts from
  change_bytes (t.assignment {x = x} {y = y} {op = op} r s v) =
      let a = postfix_bytes ts sized r in let b = assign_bytes s in let d = expr_bytes ts sized v in let h = assigned_weight op x y in omega (arith, a, b, d, h)
  change_bytes (t.step_before {from = from} {to = to} s q r) = let a = stands_has sized s in let b = behind_less ts (from + 1) to (postfix_moves ts r) in omega (arith, a, b)
  change_bytes (t.step_behind {from = from} {at = at} r s q) = let a = stands_has sized s in let b = behind_less ts from at (postfix_moves ts r) in omega (arith, a, b)
  change_bytes (t.call {from = from} {to = to} r q) = let a = behind_less ts from to (postfix_moves ts r) in omega (arith, a)

  -- a statement of which nothing is counted
  other_bytes : {x : StatTree} {from to : ℕ} → StatAt ts x from to → 0 + behind ts to ≤ behind ts from
  other_bytes {from = from} {to = to} r = let h = stat_moves ts r in let a = behind_less ts from to (omega (arith, h)) in omega (arith, a)

  stat_bytes : {x : StatTree} {from to : ℕ} → StatAt ts x from to → stat_weight x + behind ts to ≤ behind ts from
  stat_bytes (t.change r z) = let a = change_bytes r in let b = stands_has sized z in omega (arith, a, b)
  stat_bytes (t.block o r) = other_bytes (t.block o r)
  stat_bytes (t.local r z) = other_bytes (t.local r z)
  stat_bytes (t.empty o) = other_bytes (t.empty o)
  stat_bytes (t.if_alone o r v n) = other_bytes (t.if_alone o r v n)
  stat_bytes (t.if_else o r v c w) = other_bytes (t.if_else o r v c w)
  stat_bytes (t.for_loop l o h v) = other_bytes (t.for_loop l o h v)
  stat_bytes (t.while_loop l o r v) = other_bytes (t.while_loop l o r v)
  stat_bytes (t.return_value o r z) = other_bytes (t.return_value o r z)
  stat_bytes (t.break_loop o z) = other_bytes (t.break_loop o z)
  stat_bytes (t.continue_loop o z) = other_bytes (t.continue_loop o z)

  stats_bytes : {xs zs : List StatTree} {p : Place} {from to : ℕ} → StatsAt ts xs zs p from to → sum_by stat_weight zs + behind ts to ≤ sum_by stat_weight xs + behind ts from
  stats_bytes (t.end c) = let a = stands_has sized c in omega (arith, a)
  stats_bytes (t.more {x = x} {list = list} v r) =
      let a = stat_bytes v in let b = stats_bytes r in
      let h = sum_by-append stat_weight list (x ∷ []) in let g = sum_by-cons stat_weight x [] in omega (arith, a, b, h, g)

  pub block_bytes : {x : Block} {from to : ℕ} → BlockAt ts x from to → sum_by stat_weight x.statements + behind ts to ≤ behind ts from
  block_bytes (t.block o r) = let a = stands_has sized o in let b = stats_bytes r in omega (arith, a, b)
