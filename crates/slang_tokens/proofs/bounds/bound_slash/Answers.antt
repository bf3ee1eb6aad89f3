use Rattle.std.proofs.Common.{◌∷◌, arith}
use Rattle.slang_tokens.proofs.Lengths.{bounds_whole, bounds_tail}
use Rattle.slang_tokens.proofs.bounds.bound_slash.Goals as goal

pub returns-then-rest-eq0-clause-none : goal.returns-then-rest-eq0-clause-none
returns-then-rest-eq0-clause-none c = bounds_whole (47 ∷ c.args.rest.now) 1 (omega arith)

pub returns-clause-none : goal.returns-clause-none
returns-clause-none c = bounds_tail 47 c.args.rest.now c.bound_slash_by.result (omega arith) c.bound_slash_by.ensures.none
