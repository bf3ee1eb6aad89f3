use Rattle.std.proofs.Common.{rules, arith}
use Rattle.slang_grammar.specs.ExpressionsDescent.{leveled}
use Rattle.type_reading.specs.Limited.{limits_of}
use Rattle.expression_reading.proofs.Levels.{level_none, level_runs, level_fails}
use Rattle.expression_reading.proofs.operators.+level.Goals as goal

pub returns-in_err-x-clause-reads : goal.returns-in_err-x-clause-reads
returns-in_err-x-clause-reads g t c =
    let e = level_fails (limits_of c.args.limits) c.args.depth (leveled (limits_of c.args.limits) c.args.depth) c.args.rank c.in_err-x.field-0.0 c.args.tokens.now c.level.new.tokens (omega arith) c.in_err-x.ensures.reads in
    search rules

pub returns-clause-reads : goal.returns-clause-reads
returns-clause-reads g t c =
    level_runs (limits_of c.args.limits) c.args.depth (leveled (limits_of c.args.limits) c.args.depth) c.args.rank c.in_ok-x.x c.args.tokens.now c.level.new.tokens c.operators.new.tokens _ (omega arith) c.in_ok-x.ensures.reads
    c.operators.ensures.reads

pub returns-then-rank-eq0-clause-reads : goal.returns-then-rank-eq0-clause-reads
returns-then-rank-eq0-clause-reads g t c =
    level_none (limits_of c.args.limits) c.args.depth (leveled (limits_of c.args.limits) c.args.depth) c.args.rank c.args.tokens.now c.unary.new.tokens c.unary.result c.if-rank-eq0.true c.unary.ensures.reads
