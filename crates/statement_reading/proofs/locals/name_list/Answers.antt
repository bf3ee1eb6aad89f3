use Rattle.std.proofs.Common.{rules, ◌-◌, ◌∙◌, ap, drop, arith}
use Rattle.slang_tokens.specs.declared.tokens.Mark.TheVariants as m
use Rattle.slang_reading.specs.Kinds.{sees}
use Rattle.slang_reading.specs.Reading.{first, place_of}
use Rattle.slang_reading.specs.Cursor.{Cursor}
use Rattle.slang_reading.proofs.Loops.{loop_ends, loop_full, loop_goes_on, loop_fails}
use Rattle.statement_grammar.specs.StatementsDescent.{name_more}
use Rattle.type_reading.specs.Limited.{limits_of}
use Rattle.statement_reading.proofs.locals.name_list.Goals as goal

pub returns-then-not-sees : goal.returns-then-not-sees
returns-then-not-sees c =
    loop_ends (sees m.Comma) (name_more (limits_of c.args.limits) c.args.depth) _ _ (c.args.limits.turns - c.loop-turn._turn) c.loop-turn.names c.loop-turn.tokens c.sees.new.self
    c.loop-turn.invariant c.if-not-sees.ensures.after c.if-not-sees.ensures.is

pub returns-in_err-names : goal.returns-in_err-names
returns-in_err-names c =
    let e = loop_fails (sees m.Comma) (name_more (limits_of c.args.limits) c.args.depth) _ _ c.args.limits.turns c.loop-turn._turn c.loop-turn.names c.in_err-names.field-0.0 c.loop-turn.tokens c.sees.new.self
    c.name_more.new.tokens (omega arith) c.loop-turn.invariant c.if-not-sees.ensures.after c.if-not-sees.ensures.is c.in_err-names.ensures in
    search rules

pub loop-turn-preserved : goal.loop-turn-preserved
loop-turn-preserved c =
    loop_goes_on (sees m.Comma) (name_more (limits_of c.args.limits) c.args.depth) _ _ c.args.limits.turns c.loop-turn._turn c.loop-turn.names c.in_ok-names.names c.loop-turn.tokens c.sees.new.self
    c.name_more.new.tokens (omega arith) c.loop-turn.invariant c.if-not-sees.ensures.after c.if-not-sees.ensures.is c.in_ok-names.ensures

pub returns-then-sees : goal.returns-then-sees
returns-then-sees c =
    loop_full (sees m.Comma) (name_more (limits_of c.args.limits) c.args.depth) _ _ (c.args.limits.turns - c.loop-turn._turn) c.loop-turn.names c.loop-turn.tokens c.sees-2.new.self
    c.place.result (omega arith) c.loop-turn.invariant c.if-sees.ensures.after c.if-sees.ensures.is
    (c.place.ensures ∙ ap (λ (n : Cursor). place_of (first (drop n.at n.tokens))) c.if-sees.ensures.after)

pub returns : goal.returns
returns c =
    loop_ends (sees m.Comma) (name_more (limits_of c.args.limits) c.args.depth) _ _ (c.args.limits.turns - c.loop-turn._turn) c.loop-turn.names c.loop-turn.tokens c.sees-2.new.self
    c.loop-turn.invariant c.if-sees.ensures.after c.if-sees.ensures.is
