use Rattle.std.proofs.Common.{rules, ◌-◌, ◌∙◌, ap, drop, arith}
use Rattle.slang_tokens.specs.declared.tokens.Mark.TheVariants as m
use Rattle.slang_reading.specs.Kinds.{sees}
use Rattle.slang_reading.specs.Reading.{first, place_of}
use Rattle.slang_reading.specs.Cursor.{Cursor}
use Rattle.slang_reading.proofs.Loops.{loop_ends, loop_full, loop_goes_on, loop_fails}
use Rattle.slang_grammar.specs.TypesDescent.{project}
use Rattle.type_reading.specs.Limited.{limits_of}
use Rattle.type_reading.proofs.suffixes.projections.Goals as goal

pub returns-then-not-sees-clause-reads : goal.returns-then-not-sees-clause-reads
returns-then-not-sees-clause-reads c =
    loop_ends (sees m.Dot) (project (limits_of c.args.limits) c.args.depth) _ _ (c.args.limits.turns - c.loop-turn._turn) c.loop-turn.x c.loop-turn.tokens c.sees.new.self
    c.loop-turn.invariant.keeps c.if-not-sees.ensures.after c.if-not-sees.ensures.is

pub returns-in_err-x-clause-reads : goal.returns-in_err-x-clause-reads
returns-in_err-x-clause-reads c =
    let e = loop_fails (sees m.Dot) (project (limits_of c.args.limits) c.args.depth) _ _ c.args.limits.turns c.loop-turn._turn c.loop-turn.x c.in_err-x.field-0.0 c.loop-turn.tokens c.sees.new.self
    c.project.new.tokens (omega arith) c.loop-turn.invariant.keeps c.if-not-sees.ensures.after c.if-not-sees.ensures.is c.in_err-x.ensures.reads in
    search rules

pub loop-turn-preserved : goal.loop-turn-preserved
loop-turn-preserved c = record {
  keeps = loop_goes_on (sees m.Dot) (project (limits_of c.args.limits) c.args.depth) _ _ c.args.limits.turns c.loop-turn._turn c.loop-turn.x c.in_ok-x.x c.loop-turn.tokens c.sees.new.self
      c.project.new.tokens (omega arith) c.loop-turn.invariant.keeps c.if-not-sees.ensures.after c.if-not-sees.ensures.is c.in_ok-x.ensures.reads;
  within = c.in_ok-x.ensures.within;
}

pub returns-then-sees-clause-reads : goal.returns-then-sees-clause-reads
returns-then-sees-clause-reads c =
    loop_full (sees m.Dot) (project (limits_of c.args.limits) c.args.depth) _ _ (c.args.limits.turns - c.loop-turn._turn) c.loop-turn.x c.loop-turn.tokens c.sees-2.new.self
    c.place.result (omega arith) c.loop-turn.invariant.keeps c.if-sees.ensures.after c.if-sees.ensures.is
    (c.place.ensures ∙ ap (λ (n : Cursor). place_of (first (drop n.at n.tokens))) c.if-sees.ensures.after)

pub returns-clause-reads : goal.returns-clause-reads
returns-clause-reads c =
    loop_ends (sees m.Dot) (project (limits_of c.args.limits) c.args.depth) _ _ (c.args.limits.turns - c.loop-turn._turn) c.loop-turn.x c.loop-turn.tokens c.sees-2.new.self
    c.loop-turn.invariant.keeps c.if-sees.ensures.after c.if-sees.ensures.is
