use Rattle.statement_grammar.specs.StatementsDescent.{blocks}
use Rattle.expression_limits.proofs.Telling.{tells_done, tells_past}
use Rattle.statement_limits.specs.Statements.{block_breaks}
use Rattle.statement_limits.proofs.Order.{known_first}
use Rattle.statement_limits.proofs.StatementsOrder.{known_block}
use Rattle.statement_limits.proofs.Statements.{tells_blocks}
use Rattle.statement_limits.proofs.laws.blocks_tell_the_limit.Goals as goal

pub returns-clause-answered : goal.returns-clause-answered
returns-clause-answered c = λ ts limits d at seen to x s free long e.
    tells_done (block_breaks ts limits s d) (blocks limits d) ts at seen x to (tells_blocks ts limits free long d x at to s seen) e

pub returns-clause-told : goal.returns-clause-told
returns-clause-told c = λ ts limits d at seen to x s b free long e.
    tells_past (block_breaks ts limits s d) (blocks limits d) ts at seen x to b (tells_blocks ts limits free long d x at to s seen) e

pub returns-clause-goes_first : goal.returns-clause-goes_first
returns-clause-goes_first c = λ ts limits d at to x s b e. known_first ts at to b (block_breaks ts limits s d) (known_block ts limits s d) e
