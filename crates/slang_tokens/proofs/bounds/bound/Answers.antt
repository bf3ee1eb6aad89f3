use Rattle.slang_tokens.proofs.Lengths.{bounds_text}
use Rattle.slang_tokens.proofs.bounds.bound.Goals as goal

pub returns-clause-none : goal.returns-clause-none
returns-clause-none c = bounds_text c.args.bytes.now c.bound_by.result c.requires c.bound_by.ensures.none
