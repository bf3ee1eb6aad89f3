use Rattle.slang_reading.proofs.Exact.{reads_done}
use Rattle.statement_grammar.specs.StatementsDescent.{statements, blocks}
use Rattle.statement_fits.proofs.Statements.{reads_statements, reads_blocks}
use Rattle.statement_fits.proofs.laws.statements_are_answered.Goals as goal

pub returns-clause-of_statements : goal.returns-clause-of_statements
returns-clause-of_statements c = λ ts limits d at seen to x s f long depth items.
    reads_done (statements limits d) ts at seen x to (reads_statements ts limits d (record { tokens = long; depth = depth; items = items }) x at to s f seen)

pub returns-clause-of_blocks : goal.returns-clause-of_blocks
returns-clause-of_blocks c = λ ts limits d at seen to x s f long depth items.
    reads_done (blocks limits d) ts at seen x to (reads_blocks ts limits d (record { tokens = long; depth = depth; items = items }) x at to s f seen)
