use Rattle.std.proofs.Common.{ap}
use Rattle.slang_reading.specs.Reading.{first}
use Rattle.slang_grammar.specs.Heights.{height}
use Rattle.slang_grammar.specs.TypesDescent.{types}
use Rattle.expression_limits.specs.Types.{type_breaks}
use Rattle.expression_limits.proofs.Telling.{tells_done, tells_past}
use Rattle.expression_limits.proofs.Types.{tells_type}
use Rattle.expression_limits.proofs.Clear.{clear_first}
use Rattle.expression_limits.proofs.TypesClear.{fit_type, type_fits}
use Rattle.expression_limits.proofs.Order.{ordered_first}
use Rattle.expression_limits.proofs.TypesOrder.{ordered_type}
use Rattle.expression_limits.proofs.laws.types_tell_the_limit.Goals as goal

pub returns-clause-answered : goal.returns-clause-answered
returns-clause-answered c = λ ts limits d at seen to x s q free long e.
    tells_done (type_breaks ts limits s d) (types limits d) ts at seen (x, height x) to (tells_type ts limits free long s q d seen) e

pub returns-clause-told : goal.returns-clause-told
returns-clause-told c = λ ts limits d at seen to x s b q free long e.
    tells_past (type_breaks ts limits s d) (types limits d) ts at seen (x, height x) to b (tells_type ts limits free long s q d seen) e

pub returns-clause-goes_first : goal.returns-clause-goes_first
returns-clause-goes_first c = λ ts limits d at to x s b e. ordered_first ts at to b (type_breaks ts limits s d) (ordered_type ts limits s d) e

pub returns-clause-what_fits : goal.returns-clause-what_fits
returns-clause-what_fits c = λ ts limits d at to x s f. ap first (fit_type ts limits s d f)

pub returns-clause-only_what_fits : goal.returns-clause-only_what_fits
returns-clause-only_what_fits c = λ ts limits d at to x s e. type_fits ts limits s d (clear_first (type_breaks ts limits s d) e)
