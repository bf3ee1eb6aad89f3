use Rattle.type_reading.specs.Limited.{limits_of}
use Rattle.statement_reading.proofs.Foreseen.{foretold}
use Rattle.statement_reading.proofs.ahead.local_follows.Goals as goal

pub returns-clause-follows : goal.returns-clause-follows
returns-clause-follows c =
    foretold (limits_of c.args.limits) c.args.tokens.now c.local_read.new.tokens c.back_to.new.self c.at-start.result c.at-start.ensures.is c.back_to.ensures c.local_read.ensures.kept c.in_ok-found.found c.in_ok-found.ensures.told
