use Rattle.statement_grammar.specs.StatementsDescent.{statements}
use Rattle.expression_limits.proofs.Telling.{tells_done, tells_past}
use Rattle.statement_limits.specs.Statements.{stat_breaks}
use Rattle.statement_limits.proofs.Order.{known_first}
use Rattle.statement_limits.proofs.StatementsOrder.{known_stat}
use Rattle.statement_limits.proofs.Statements.{tells_statements}
use Rattle.statement_limits.proofs.laws.statements_tell_the_limit.Goals as goal

pub returns-clause-answered : goal.returns-clause-answered
returns-clause-answered c = λ ts limits d at seen to x s free long e.
    tells_done (stat_breaks ts limits s d) (statements limits d) ts at seen x to (tells_statements ts limits free long d x at to s seen) e

pub returns-clause-told : goal.returns-clause-told
returns-clause-told c = λ ts limits d at seen to x s b free long e.
    tells_past (stat_breaks ts limits s d) (statements limits d) ts at seen x to b (tells_statements ts limits free long d x at to s seen) e

pub returns-clause-goes_first : goal.returns-clause-goes_first
returns-clause-goes_first c = λ ts limits d at to x s b e. known_first ts at to b (stat_breaks ts limits s d) (known_stat ts limits s d) e
