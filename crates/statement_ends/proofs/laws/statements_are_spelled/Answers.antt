use Rattle.expression_grammar.proofs.Parts.{post_here}
use Rattle.statement_grammar.specs.Statements.{StatAt, BlockAt}
use Rattle.statement_grammar.specs.StatementsDescent.{statements, blocks}
use Rattle.statement_ends.proofs.Wrong.{spelled_statements, spelled_blocks}
use Rattle.statement_ends.proofs.laws.statements_are_spelled.Goals as goal

pub returns-clause-of_statements : goal.returns-clause-of_statements
returns-clause-of_statements c = λ ts limits d at seen to seen1 x e. post_here (λ y end. StatAt ts y at end) (statements limits d ts at seen) x to seen1 e (spelled_statements ts limits d at seen)

pub returns-clause-of_blocks : goal.returns-clause-of_blocks
returns-clause-of_blocks c = λ ts limits d at seen to seen1 x e. post_here (λ y end. BlockAt ts y at end) (blocks limits d ts at seen) x to seen1 e (spelled_blocks ts limits d at seen)
