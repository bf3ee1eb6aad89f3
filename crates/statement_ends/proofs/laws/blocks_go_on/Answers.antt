use Rattle.statement_ends.proofs.Wrong.{blocks_go_on, no_block}
use Rattle.statement_ends.proofs.laws.blocks_go_on.Goals as goal

pub returns-clause-goes_on : goal.returns-clause-goes_on
returns-clause-goes_on c = λ ts limits d at e. blocks_go_on ts limits d at e

pub returns-clause-goes_no_further : goal.returns-clause-goes_no_further
returns-clause-goes_no_further c = λ ts limits d at to more x e lt s. no_block ts limits d at to more x e lt s
