use Rattle.std.proofs.Common.{arith}
use Rattle.type_reading.specs.Limited.{limits_of}
use Rattle.expression_reading.proofs.Levels.{leveled_runs}
use Rattle.expression_reading.proofs.descent.+fn-leveled-inner+leveled.Goals as goal

pub returns-clause-reads : goal.returns-clause-reads
returns-clause-reads t c =
    leveled_runs (limits_of c.args.limits) c.args.depth c.args.rank c.args.tokens.now c.at_level.new.tokens _ (omega arith) c.at_level.ensures.reads
