use Rattle.type_exprs.proofs.Planned.{type_planned, expr_planned}
use Rattle.type_exprs.proofs.laws.needs_are_told_by_the_plans.Goals as goal

pub returns-clause-types : goal.returns-clause-types
returns-clause-types c = type_planned

pub returns-clause-exprs : goal.returns-clause-exprs
returns-clause-exprs c = expr_planned
