use Rattle.std.proofs.Common.{rules, ◌-◌, ◌∙◌, ap, drop, arith}
use Rattle.slang_tokens.specs.declared.tokens.Mark.TheVariants as m
use Rattle.slang_reading.specs.Kinds.{sees}
use Rattle.slang_reading.specs.Reading.{first, place_of}
use Rattle.slang_reading.specs.Cursor.{Cursor}
use Rattle.slang_reading.proofs.Loops.{loop_ends, loop_full, loop_goes_on, loop_fails}
use Rattle.declaration_grammar.specs.DeclarationsDescent.{extended_more}
use Rattle.type_reading.specs.Limited.{limits_of}
use Rattle.declaration_reading.proofs.extended.extended_list.Goals as goal

pub returns-then-not-sees : goal.returns-then-not-sees
returns-then-not-sees c =
    loop_ends (sees m.Comma) (extended_more (limits_of c.args.limits) c.args.depth) _ _ (c.args.limits.turns - c.loop-turn._turn) c.loop-turn.list c.loop-turn.tokens c.sees.new.self
    c.loop-turn.invariant c.if-not-sees.ensures.after c.if-not-sees.ensures.is

pub returns-in_err-list : goal.returns-in_err-list
returns-in_err-list c =
    let e = loop_fails (sees m.Comma) (extended_more (limits_of c.args.limits) c.args.depth) _ _ c.args.limits.turns c.loop-turn._turn c.loop-turn.list c.in_err-list.field-0.0 c.loop-turn.tokens c.sees.new.self
    c.extended_more.new.tokens (omega arith) c.loop-turn.invariant c.if-not-sees.ensures.after c.if-not-sees.ensures.is c.in_err-list.ensures in
    search rules

pub loop-turn-preserved : goal.loop-turn-preserved
loop-turn-preserved c =
    loop_goes_on (sees m.Comma) (extended_more (limits_of c.args.limits) c.args.depth) _ _ c.args.limits.turns c.loop-turn._turn c.loop-turn.list c.in_ok-list.list c.loop-turn.tokens c.sees.new.self
    c.extended_more.new.tokens (omega arith) c.loop-turn.invariant c.if-not-sees.ensures.after c.if-not-sees.ensures.is c.in_ok-list.ensures

pub returns-then-sees : goal.returns-then-sees
returns-then-sees c =
    loop_full (sees m.Comma) (extended_more (limits_of c.args.limits) c.args.depth) _ _ (c.args.limits.turns - c.loop-turn._turn) c.loop-turn.list c.loop-turn.tokens c.sees-2.new.self
    c.place.result (omega arith) c.loop-turn.invariant c.if-sees.ensures.after c.if-sees.ensures.is
    (c.place.ensures ∙ ap (λ (n : Cursor). place_of (first (drop n.at n.tokens))) c.if-sees.ensures.after)

pub returns : goal.returns
returns c =
    loop_ends (sees m.Comma) (extended_more (limits_of c.args.limits) c.args.depth) _ _ (c.args.limits.turns - c.loop-turn._turn) c.loop-turn.list c.loop-turn.tokens c.sees-2.new.self
    c.loop-turn.invariant c.if-sees.ensures.after c.if-sees.ensures.is
