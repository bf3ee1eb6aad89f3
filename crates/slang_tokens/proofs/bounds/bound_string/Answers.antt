use Rattle.std.proofs.Common.{◌∷◌, get_or, sym, ap, ◌∙◌, arith}
use Rattle.slang_tokens.proofs.Lengths.{bounds_whole, bounds_string, bounds_same}
use Rattle.slang_tokens.proofs.bounds.bound_string.Goals as goal

pub returns-then-rest-inside-eq34-clause-none : goal.returns-then-rest-inside-eq34-clause-none
returns-then-rest-inside-eq34-clause-none c =
    bounds_same (34 ∷ c.args.rest.now) _ _
    (bounds_string c.args.rest.now (ap (λ k. get_or c.args.rest.now k 0) (sym c.run-inside.ensures.value) ∙ c.if-rest-inside-eq34.true)) (omega (arith, c.run-inside.ensures.value))

pub returns-clause-none : goal.returns-clause-none
returns-clause-none c = bounds_whole (34 ∷ c.args.rest.now) _ (omega arith)
