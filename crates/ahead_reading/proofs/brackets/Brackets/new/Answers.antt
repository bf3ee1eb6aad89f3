use Rattle.std.proofs.Common.{ap, sym, subst, List, ◌+◌}
use Rattle.type_reading.specs.declared.steps.Awaited.TheVariants.{Item}
use Rattle.ahead_reading.specs.declared.brackets.Bracket.{Bracket}
use Rattle.ahead_reading.specs.declared.brackets.Bracket.TheVariants.{Many}
use Rattle.ahead_reading.specs.Brackets.{AllCome, outermost_of}
use Rattle.ahead_reading.proofs.OpenBrackets.{begins}
use Rattle.ahead_reading.proofs.brackets.Brackets.new.Goals as goal

pub returns-clause-comes : goal.returns-clause-comes
returns-clause-comes c = λ ts e. subst (λ (l : List Bracket). AllCome ts (c.args.begin + 1) (record { top = Many c.args.begin; under = l; awaited = Item })) (sym c.new.ensures) (begins ts c.args.begin e)

pub returns-clause-outermost : goal.returns-clause-outermost
returns-clause-outermost c = ap (outermost_of (Many c.args.begin)) c.new.ensures
