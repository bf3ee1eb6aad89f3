use Rattle.std.proofs.Common.{rules, ◌-◌, arith}
use Rattle.slang_grammar.specs.ExpressionsDescent.{operator, leveled}
use Rattle.type_reading.specs.Limited.{limits_of}
use Rattle.expression_reading.proofs.Repeats.{repeat_ends, repeat_full, repeat_goes_on, repeat_fails}
use Rattle.expression_reading.proofs.operators.operators.Goals as goal

pub returns-then-not-more-clause-reads : goal.returns-then-not-more-clause-reads
returns-then-not-more-clause-reads g c =
    repeat_ends (operator (limits_of c.args.limits) c.args.depth (leveled (limits_of c.args.limits) c.args.depth) c.args.rank) _ _ (c.args.limits.turns - c.loop-turn._turn) c.loop-turn.x c.in_ok-y.y c.in_ok-y.more
    c.loop-turn.tokens c.operator.new.tokens c.loop-turn.invariant.keeps c.in_ok-y.ensures.reads c.if-not-more.true c.in_ok-y.ensures.same

pub loop-turn-preserved : goal.loop-turn-preserved
loop-turn-preserved g c = record {
  keeps = repeat_goes_on (operator (limits_of c.args.limits) c.args.depth (leveled (limits_of c.args.limits) c.args.depth) c.args.rank) _ _ c.args.limits.turns c.loop-turn._turn c.loop-turn.x c.in_ok-y.y c.in_ok-y.more
      c.loop-turn.tokens c.operator.new.tokens (omega arith) c.loop-turn.invariant.keeps c.in_ok-y.ensures.reads c.if-not-more.false;
  within = c.in_ok-y.ensures.within;
}

pub returns-in_err-y-clause-reads : goal.returns-in_err-y-clause-reads
returns-in_err-y-clause-reads g c =
    let e = repeat_fails (operator (limits_of c.args.limits) c.args.depth (leveled (limits_of c.args.limits) c.args.depth) c.args.rank) _ _ (c.args.limits.turns - c.loop-turn._turn) c.loop-turn.x c.in_err-y.field-0.0
    c.loop-turn.tokens c.operator.new.tokens c.loop-turn.invariant.keeps c.in_err-y.ensures.reads in
    search rules

pub returns-in_err-y-2-clause-reads : goal.returns-in_err-y-2-clause-reads
returns-in_err-y-2-clause-reads g c =
    let e = repeat_fails (operator (limits_of c.args.limits) c.args.depth (leveled (limits_of c.args.limits) c.args.depth) c.args.rank) _ _ (c.args.limits.turns - c.loop-turn._turn) c.loop-turn.x c.in_err-y-2.field-0.0
    c.loop-turn.tokens c.operator-2.new.tokens c.loop-turn.invariant.keeps c.in_err-y-2.ensures.reads in
    search rules

pub returns-then-more-clause-reads : goal.returns-then-more-clause-reads
returns-then-more-clause-reads g c =
    repeat_full (operator (limits_of c.args.limits) c.args.depth (leveled (limits_of c.args.limits) c.args.depth) c.args.rank) _ _ (c.args.limits.turns - c.loop-turn._turn) c.loop-turn.x c.in_ok-y-2.y c.in_ok-y-2.more
    c.loop-turn.tokens c.operator-2.new.tokens (omega arith) c.loop-turn.invariant.keeps c.in_ok-y-2.ensures.reads c.if-more.true

pub returns-clause-reads : goal.returns-clause-reads
returns-clause-reads g c =
    repeat_ends (operator (limits_of c.args.limits) c.args.depth (leveled (limits_of c.args.limits) c.args.depth) c.args.rank) _ _ (c.args.limits.turns - c.loop-turn._turn) c.loop-turn.x c.in_ok-y-2.y c.in_ok-y-2.more
    c.loop-turn.tokens c.operator-2.new.tokens c.loop-turn.invariant.keeps c.in_ok-y-2.ensures.reads c.if-more.false c.in_ok-y-2.ensures.same
