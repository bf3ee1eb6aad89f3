use Rattle.std.proofs.Common.{◌∷◌, arith}
use Rattle.slang_tokens.proofs.Lengths.{bounds_whole, bounds_tail}
use Rattle.slang_tokens.proofs.bounds.bound_zero.Goals as goal

pub returns-then-rest-eq0-clause-none : goal.returns-then-rest-eq0-clause-none
returns-then-rest-eq0-clause-none c = bounds_whole (48 ∷ c.args.rest.now) 1 (omega arith)

pub returns-clause-none : goal.returns-clause-none
returns-clause-none c = bounds_tail 48 c.args.rest.now c.bound_zero_by.result (omega arith) c.bound_zero_by.ensures.none
