use Rattle.nesting_laws.proofs.Types.{type_tells}
use Rattle.nesting_laws.proofs.Expressions.{expr_tells}
use Rattle.nesting_laws.proofs.laws.heights_tell_the_nesting.Goals as goal

pub returns-clause-types_fit : goal.returns-clause-types_fit
returns-clause-types_fit c = λ x around l. (type_tells x).0 around l

pub returns-clause-types_low : goal.returns-clause-types_low
returns-clause-types_low c = λ x around l. (type_tells x).1 around l

pub returns-clause-expressions_fit : goal.returns-clause-expressions_fit
returns-clause-expressions_fit c = λ x around l. (expr_tells x).0 around l

pub returns-clause-expressions_low : goal.returns-clause-expressions_low
returns-clause-expressions_low c = λ x around l. (expr_tells x).1 around l
