use Rattle.constant_values.proofs.Signs as signs
use Rattle.constant_values.proofs.laws.unsigned_numbers_are_naturals.Goals as goal

pub returns-clause-quotient : goal.returns-clause-quotient
returns-clause-quotient c = signs.quotient

pub returns-clause-by_zero : goal.returns-clause-by_zero
returns-clause-by_zero c = signs.by_zero

pub returns-clause-order : goal.returns-clause-order
returns-clause-order c = signs.order
