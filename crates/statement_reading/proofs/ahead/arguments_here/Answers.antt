use Rattle.std.proofs.Common.{refl}
use Rattle.slang_grammar.specs.ExpressionsDescent.{freed}
use Rattle.type_reading.specs.Limited.{limits_of}
use Rattle.ahead_reading.specs.Knowing.{Ready}
use Rattle.statement_reading.proofs.ahead.arguments_here.Goals as goal

pub scan_known-requires : goal.scan_known-requires
unfolding Ready
scan_known-requires c = c.requires.1

pub returns : goal.returns
unfolding Ready
returns c = c.scan_known.ensures.same (freed (limits_of c.args.limits)) refl c.requires.0
