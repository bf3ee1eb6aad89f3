use Rattle.std.proofs.Common.{rules, ◌∙◌, ◌-◌, ap, drop, arith}
use Rattle.slang_reading.specs.Reading.{first, place_of}
use Rattle.slang_reading.specs.Cursor.{Cursor}
use Rattle.slang_reading.proofs.Loops.{loop_ends, loop_full, loop_goes_on, loop_fails}
use Rattle.slang_grammar.specs.ExpressionsDescent.{chains, chain, leveled}
use Rattle.type_reading.specs.Limited.{limits_of}
use Rattle.expression_reading.proofs.primaries.chain_rest.Goals as goal

pub returns-then-not-goes_on-clause-reads : goal.returns-then-not-goes_on-clause-reads
returns-then-not-goes_on-clause-reads g c =
    loop_ends (chains (limits_of c.args.limits) c.args.depth (leveled (limits_of c.args.limits) c.args.depth)) (chain (limits_of c.args.limits) c.args.depth (leveled (limits_of c.args.limits) c.args.depth)) _ _ (c.args.limits.turns - c.loop-turn._turn) c.loop-turn.x c.loop-turn.tokens c.goes_on.new.tokens
    c.loop-turn.invariant.keeps c.if-not-goes_on.ensures.after c.if-not-goes_on.ensures.is

pub returns-in_err-x-clause-reads : goal.returns-in_err-x-clause-reads
returns-in_err-x-clause-reads g c =
    let e = loop_fails (chains (limits_of c.args.limits) c.args.depth (leveled (limits_of c.args.limits) c.args.depth)) (chain (limits_of c.args.limits) c.args.depth (leveled (limits_of c.args.limits) c.args.depth)) _ _ c.args.limits.turns c.loop-turn._turn c.loop-turn.x c.in_err-x.field-0.0 c.loop-turn.tokens c.goes_on.new.tokens
    c.chain.new.tokens (omega arith) c.loop-turn.invariant.keeps c.if-not-goes_on.ensures.after c.if-not-goes_on.ensures.is c.in_err-x.ensures.reads in
    search rules

pub loop-turn-preserved : goal.loop-turn-preserved
loop-turn-preserved g c = record {
  keeps = loop_goes_on (chains (limits_of c.args.limits) c.args.depth (leveled (limits_of c.args.limits) c.args.depth)) (chain (limits_of c.args.limits) c.args.depth (leveled (limits_of c.args.limits) c.args.depth)) _ _ c.args.limits.turns c.loop-turn._turn c.loop-turn.x c.in_ok-x.x c.loop-turn.tokens c.goes_on.new.tokens
      c.chain.new.tokens (omega arith) c.loop-turn.invariant.keeps c.if-not-goes_on.ensures.after c.if-not-goes_on.ensures.is c.in_ok-x.ensures.reads;
  within = c.in_ok-x.ensures.within;
}

pub returns-then-goes_on-clause-reads : goal.returns-then-goes_on-clause-reads
returns-then-goes_on-clause-reads g c =
    loop_full (chains (limits_of c.args.limits) c.args.depth (leveled (limits_of c.args.limits) c.args.depth)) (chain (limits_of c.args.limits) c.args.depth (leveled (limits_of c.args.limits) c.args.depth)) _ _ (c.args.limits.turns - c.loop-turn._turn) c.loop-turn.x c.loop-turn.tokens c.goes_on-2.new.tokens
    c.place.result (omega arith) c.loop-turn.invariant.keeps c.if-goes_on.ensures.after c.if-goes_on.ensures.is
    (c.place.ensures ∙ ap (λ (n : Cursor). place_of (first (drop n.at n.tokens))) c.if-goes_on.ensures.after)

pub returns-clause-reads : goal.returns-clause-reads
returns-clause-reads g c =
    loop_ends (chains (limits_of c.args.limits) c.args.depth (leveled (limits_of c.args.limits) c.args.depth)) (chain (limits_of c.args.limits) c.args.depth (leveled (limits_of c.args.limits) c.args.depth)) _ _ (c.args.limits.turns - c.loop-turn._turn) c.loop-turn.x c.loop-turn.tokens c.goes_on-2.new.tokens
    c.loop-turn.invariant.keeps c.if-goes_on.ensures.after c.if-goes_on.ensures.is
