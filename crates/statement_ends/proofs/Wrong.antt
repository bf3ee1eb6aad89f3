-- Statements and blocks: some statement begins with the tokens before the one at which the descent stops, and none with
-- that one too.
use Rattle.std.proofs.Common.{◌≡◌, ℕ, suc, ◌+◌, ◌<◌, ◌≤◌, List, ◌++◌, length, take, refl, ◌∙◌, ap, subst, arith}
use Rattle.slang_tree.specs.declared.statements.StatTree.{StatTree}
use Rattle.slang_tree.specs.declared.statements.Block.{Block}
use Rattle.slang_reading.specs.Lexed.{Lexed}
use Rattle.slang_reading.specs.Reading.{Stop}
use Rattle.slang_reading.proofs.Tame.{seen_of, Bounded}
use Rattle.slang_reading.proofs.Exact.{Post, reads_not_stopped}
use Rattle.slang_reading.proofs.Wrong.{same_outcome, goes_on}
use Rattle.slang_grammar.specs.Descent.{Limits}
use Rattle.slang_grammar.specs.Expressions.{loosest}
use Rattle.expression_grammar.proofs.Parts.{post_here}
use Rattle.expression_grammar.proofs.Spelled.{post_leveled}
use Rattle.statement_grammar.specs.Statements.{StatAt, BlockAt}
use Rattle.statement_grammar.specs.StatementsDescent.{statements, blocks}
use Rattle.statement_grammar.proofs.StatementsSpelled.{post_statements, post_blocks}
use Rattle.statement_laws.proofs.Statements.{reads_statements, reads_blocks}
use Rattle.statement_ends.proofs.Roomy.{roomy}
use Rattle.statement_ends.proofs.Operands.{post_operands}
use Rattle.statement_ends.proofs.Statements.{Ended, ready_statements, ready_blocks}

-- what is read is spelled
pub spelled_statements : (ts : List Lexed) (limits : Limits) (d at seen : ℕ) → Post (λ x to. StatAt ts x at to) (statements limits d ts at seen)
spelled_statements ts limits d at seen = post_statements ts limits (λ d at seen. post_leveled ts limits d (suc loosest) at seen) (λ d at seen. post_operands ts limits d at seen) d at seen

pub spelled_blocks : (ts : List Lexed) (limits : Limits) (d at seen : ℕ) → Post (λ x to. BlockAt ts x at to) (blocks limits d ts at seen)
spelled_blocks ts limits d at seen = post_blocks ts limits (λ d at seen. post_leveled ts limits d (suc loosest) at seen) (λ d at seen. post_operands ts limits d at seen) d at seen

pub statements_go_on : (ts : List Lexed) (limits : Limits) (d at : ℕ) → statements limits d ts 0 0 ≡ Stop (at + 1) →
    (more : List Lexed) × (x : StatTree) × StatAt (take at ts ++ more) x 0 (length (take at ts ++ more))
statements_go_on ts limits d at e =
    let large = roomy limits in
    let most = large.turns + 4 + d + 1 in
    let r = ready_statements limits most d (omega arith) in
    let b : Bounded {A = StatTree} (length ts) (Stop (at + 1)) = subst (Bounded (length ts)) e (r.viable.tame.bounded ts 0 0 (omega arith) (omega arith)) in
    let within : at ≤ length ts = omega (arith, b) in
    let g = goes_on (statements limits d) ts at Ended (statements large most) r.viable refl (ap seen_of e) within in
    let us = take at ts ++ g.0 in
    (g.0, g.1.tree, post_here (λ x end. StatAt us x 0 end) (statements large most us 0 0) g.1.tree (length us) g.1.seen1 g.1.is (spelled_statements us large most 0 0))

pub blocks_go_on : (ts : List Lexed) (limits : Limits) (d at : ℕ) → blocks limits d ts 0 0 ≡ Stop (at + 1) →
    (more : List Lexed) × (x : Block) × BlockAt (take at ts ++ more) x 0 (length (take at ts ++ more))
blocks_go_on ts limits d at e =
    let large = roomy limits in
    let most = large.turns + 5 + d + 1 in
    let r = ready_blocks limits Ended most d (omega arith) in
    let b : Bounded {A = Block} (length ts) (Stop (at + 1)) = subst (Bounded (length ts)) e (r.viable.tame.bounded ts 0 0 (omega arith) (omega arith)) in
    let within : at ≤ length ts = omega (arith, b) in
    let g = goes_on (blocks limits d) ts at Ended (blocks large most) r.viable refl (ap seen_of e) within in
    let us = take at ts ++ g.0 in
    (g.0, g.1.tree, post_here (λ x end. BlockAt us x 0 end) (blocks large most us 0 0) g.1.tree (length us) g.1.seen1 g.1.is (spelled_blocks us large most 0 0))

pub no_statement : (ts : List Lexed) (limits : Limits) (d at to : ℕ) (more : List Lexed) (x : StatTree) → statements limits d ts 0 0 ≡ Stop (at + 1) → at < length ts → StatAt (take (at + 1) ts ++ more) x 0 to → ⊥
no_statement ts limits d at to more x e lt s =
    let us = take (at + 1) ts ++ more in
    let r = ready_statements limits ((roomy limits).turns + 4 + d + 1) d (omega arith) in
    let same = same_outcome (statements limits d) ts at r.viable.tame (ap seen_of e) lt more in
    reads_not_stopped (Unit {0}) (statements limits d) us 0 0 x to (at + 1) (reads_statements (Unit {0}) tt us limits d x 0 to s 0) (same ∙ e)

pub no_block : (ts : List Lexed) (limits : Limits) (d at to : ℕ) (more : List Lexed) (x : Block) → blocks limits d ts 0 0 ≡ Stop (at + 1) → at < length ts → BlockAt (take (at + 1) ts ++ more) x 0 to → ⊥
no_block ts limits d at to more x e lt s =
    let us = take (at + 1) ts ++ more in
    let r = ready_blocks limits Ended ((roomy limits).turns + 5 + d + 1) d (omega arith) in
    let same = same_outcome (blocks limits d) ts at r.viable.tame (ap seen_of e) lt more in
    reads_not_stopped (Unit {0}) (blocks limits d) us 0 0 x to (at + 1) (reads_blocks (Unit {0}) tt us limits d x 0 to s 0) (same ∙ e)
