-- Expressions: some expression begins with the tokens before the one at which the descent stops.
use Rattle.std.proofs.Common.{true, ◌≡◌, ℕ, suc, ◌+◌, ◌≤◌, List, ◌++◌, length, take, refl, ap, subst, arith}
use Rattle.slang_tree.specs.declared.expressions.ExprTree.{ExprTree}
use Rattle.slang_reading.specs.Lexed.{Lexed}
use Rattle.slang_reading.specs.Reading.{Stop}
use Rattle.slang_reading.proofs.Tame.{seen_of, Bounded}
use Rattle.slang_reading.proofs.Exact.{Post}
use Rattle.slang_reading.proofs.Wrong.{goes_on}
use Rattle.slang_grammar.specs.Descent.{Limits}
use Rattle.slang_grammar.specs.Expressions.{loosest, ExprAt}
use Rattle.slang_grammar.specs.ExpressionsDescent.{Value, expressions}
use Rattle.expression_grammar.proofs.Spelled.{post_leveled}
use Rattle.expression_grammar.proofs.Ready.{Ends, Roomier, ready_leveled}

-- two turns more, and no limits of lists, names and chains
abbrev roomy : Limits → Limits
roomy limits = record { turns = limits.turns + 2; items = limits.items; names = limits.names; free = true }

roomy_roomier : (limits : Limits) → Roomier limits (roomy limits)
roomy_roomier limits = record { turns = omega arith; free = refl }

pub expressions_go_on : (ts : List Lexed) (limits : Limits) (d at : ℕ) → expressions limits d ts 0 0 ≡ Stop (at + 1) →
    (more : List Lexed) × (x : ExprTree) × ExprAt (take at ts ++ more) x 0 (length (take at ts ++ more))
expressions_go_on ts limits d at e =
    let large = roomy limits in
    let most = large.turns + 2 + d + 1 in
    let r = ready_leveled limits large (roomy_roomier limits) most d (suc loosest) (omega arith) in
    let b : Bounded {A = Value} (length ts) (Stop (at + 1)) = subst (Bounded (length ts)) e (r.viable.tame.bounded ts 0 0 (omega arith) (omega arith)) in
    let within : at ≤ length ts = omega (arith, b) in
    let g = goes_on (expressions limits d) ts at Ends (expressions large most) r.viable refl (ap seen_of e) within in
    let us = take at ts ++ g.0 in
    (g.0, g.1.tree.0, subst (Post (λ (y : Value) (end : ℕ). ExprAt us y.0 0 end)) g.1.is (post_leveled us large most (suc loosest) 0 0))
