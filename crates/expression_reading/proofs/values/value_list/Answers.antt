use Rattle.std.proofs.Common.{rules, ◌∙◌, ◌-◌, ap, drop, arith}
use Rattle.slang_tokens.specs.declared.tokens.Mark.TheVariants as m
use Rattle.slang_reading.specs.Kinds.{sees}
use Rattle.slang_reading.specs.Reading.{first, place_of}
use Rattle.slang_reading.specs.Cursor.{Cursor}
use Rattle.slang_reading.proofs.Loops.{loop_ends, loop_full, loop_goes_on, loop_fails}
use Rattle.slang_grammar.specs.ExpressionsDescent.{value_more, leveled}
use Rattle.type_reading.specs.Limited.{limits_of}
use Rattle.expression_reading.proofs.values.value_list.Goals as goal

pub returns-then-not-sees-clause-reads : goal.returns-then-not-sees-clause-reads
returns-then-not-sees-clause-reads g c =
    loop_ends (sees m.Comma) (value_more (limits_of c.args.limits) c.args.depth (leveled (limits_of c.args.limits) c.args.depth)) _ _ (c.args.limits.turns - c.loop-turn._turn) c.loop-turn.list c.loop-turn.tokens c.sees.new.self
    c.loop-turn.invariant.keeps c.if-not-sees.ensures.after c.if-not-sees.ensures.is

pub returns-in_err-list-clause-reads : goal.returns-in_err-list-clause-reads
returns-in_err-list-clause-reads g c =
    let e = loop_fails (sees m.Comma) (value_more (limits_of c.args.limits) c.args.depth (leveled (limits_of c.args.limits) c.args.depth)) _ _ c.args.limits.turns c.loop-turn._turn c.loop-turn.list c.in_err-list.field-0.0 c.loop-turn.tokens c.sees.new.self
    c.value_more.new.tokens (omega arith) c.loop-turn.invariant.keeps c.if-not-sees.ensures.after c.if-not-sees.ensures.is c.in_err-list.ensures.reads in
    search rules

pub loop-turn-preserved : goal.loop-turn-preserved
loop-turn-preserved g c = record {
  keeps = loop_goes_on (sees m.Comma) (value_more (limits_of c.args.limits) c.args.depth (leveled (limits_of c.args.limits) c.args.depth)) _ _ c.args.limits.turns c.loop-turn._turn c.loop-turn.list c.in_ok-list.list c.loop-turn.tokens c.sees.new.self
      c.value_more.new.tokens (omega arith) c.loop-turn.invariant.keeps c.if-not-sees.ensures.after c.if-not-sees.ensures.is c.in_ok-list.ensures.reads;
  within = c.in_ok-list.ensures.within;
}

pub returns-then-sees-clause-reads : goal.returns-then-sees-clause-reads
returns-then-sees-clause-reads g c =
    loop_full (sees m.Comma) (value_more (limits_of c.args.limits) c.args.depth (leveled (limits_of c.args.limits) c.args.depth)) _ _ (c.args.limits.turns - c.loop-turn._turn) c.loop-turn.list c.loop-turn.tokens c.sees-2.new.self
    c.place.result (omega arith) c.loop-turn.invariant.keeps c.if-sees.ensures.after c.if-sees.ensures.is
    (c.place.ensures ∙ ap (λ (n : Cursor). place_of (first (drop n.at n.tokens))) c.if-sees.ensures.after)

pub returns-clause-reads : goal.returns-clause-reads
returns-clause-reads g c =
    loop_ends (sees m.Comma) (value_more (limits_of c.args.limits) c.args.depth (leveled (limits_of c.args.limits) c.args.depth)) _ _ (c.args.limits.turns - c.loop-turn._turn) c.loop-turn.list c.loop-turn.tokens c.sees-2.new.self
    c.loop-turn.invariant.keeps c.if-sees.ensures.after c.if-sees.ensures.is
