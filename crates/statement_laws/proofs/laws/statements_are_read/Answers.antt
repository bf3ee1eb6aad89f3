use Rattle.std.proofs.Common.{◌≡◌}
use Rattle.slang_reading.proofs.Exact.{reads_not_stopped}
use Rattle.expression_grammar.proofs.Parts.{post_here, post_known}
use Rattle.statement_grammar.specs.StatementsDescent.{statements}
use Rattle.statement_laws.proofs.Statements.{reads_statements}
use Rattle.statement_laws.proofs.laws.statements_are_read.Goals as goal

pub returns-clause-not_stopped : goal.returns-clause-not_stopped
returns-clause-not_stopped c = λ ts limits d at seen to seen1 x s e.
    reads_not_stopped (Unit {0}) (statements limits d) ts at seen x to seen1 (reads_statements (Unit {0}) tt ts limits d x at to s seen) e

pub returns-clause-answered : goal.returns-clause-answered
returns-clause-answered c = λ ts limits d at seen to end seen1 x y s e.
    post_here (λ b mid. (b ≡ x) × (mid ≡ to)) (statements limits d ts at seen) y end seen1 e (post_known (statements limits d) ts at seen x to (reads_statements (Unit {0}) tt ts limits d x at to s seen))
