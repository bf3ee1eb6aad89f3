use Rattle.std.proofs.Common.{ap}
use Rattle.slang_reading.specs.Reading.{first}
use Rattle.slang_grammar.specs.ExpressionsDescent.{expressions}
use Rattle.expression_grammar.specs.Heights.{expr_height}
use Rattle.expression_limits.specs.Expressions.{expr_breaks}
use Rattle.expression_limits.proofs.Telling.{tells_done, tells_past}
use Rattle.expression_limits.proofs.Expressions.{tells_expr}
use Rattle.expression_limits.proofs.Clear.{clear_first}
use Rattle.expression_limits.proofs.ExpressionsClear.{fit_expr, expr_fits}
use Rattle.expression_limits.proofs.Order.{ordered_first}
use Rattle.expression_limits.proofs.ExpressionsOrder.{ordered_expr}
use Rattle.expression_limits.proofs.laws.expressions_tell_the_limit.Goals as goal

pub returns-clause-answered : goal.returns-clause-answered
returns-clause-answered c = λ ts limits d at seen to x s q free long e.
    tells_done (expr_breaks ts limits s d) (expressions limits d) ts at seen (x, expr_height x) to (tells_expr ts limits free long s q d seen) e

pub returns-clause-told : goal.returns-clause-told
returns-clause-told c = λ ts limits d at seen to x s b q free long e.
    tells_past (expr_breaks ts limits s d) (expressions limits d) ts at seen (x, expr_height x) to b (tells_expr ts limits free long s q d seen) e

pub returns-clause-goes_first : goal.returns-clause-goes_first
returns-clause-goes_first c = λ ts limits d at to x s b e. ordered_first ts at to b (expr_breaks ts limits s d) (ordered_expr ts limits s d) e

pub returns-clause-what_fits : goal.returns-clause-what_fits
returns-clause-what_fits c = λ ts limits d at to x s f. ap first (fit_expr ts limits s d f)

pub returns-clause-only_what_fits : goal.returns-clause-only_what_fits
returns-clause-only_what_fits c = λ ts limits d at to x s e. expr_fits ts limits s d (clear_first (expr_breaks ts limits s d) e)
