use Rattle.std.proofs.Common.{rules, not, ◌-◌, ◌∙◌, ap, drop, arith}
use Rattle.slang_reading.specs.Reading.{first, place_of}
use Rattle.slang_reading.specs.Cursor.{Cursor}
use Rattle.slang_reading.proofs.Loops.{loop_ends, loop_full, loop_goes_on, loop_fails}
use Rattle.declaration_grammar.specs.DeclarationsDescent.{in_braces, member_more}
use Rattle.type_reading.specs.Limited.{limits_of}
use Rattle.member_reading.proofs.members.members.Goals as goal

pub returns-then-sees : goal.returns-then-sees
returns-then-sees c =
    loop_ends (in_braces (limits_of c.args.limits) c.args.depth) (member_more (limits_of c.args.limits) c.args.depth) _ _ (c.args.limits.turns - c.loop-turn._turn)
    c.loop-turn.list c.loop-turn.tokens c.sees.new.self c.loop-turn.invariant c.if-sees.ensures.after (ap not c.if-sees.ensures.is)

pub returns-in_err-list : goal.returns-in_err-list
returns-in_err-list c =
    let e = loop_fails (in_braces (limits_of c.args.limits) c.args.depth) (member_more (limits_of c.args.limits) c.args.depth) _ _ c.args.limits.turns c.loop-turn._turn
    c.loop-turn.list c.in_err-list.field-0.0 c.loop-turn.tokens c.sees.new.self c.member_more.new.tokens (omega arith) c.loop-turn.invariant c.if-sees.ensures.after
    (ap not c.if-sees.ensures.is) c.in_err-list.ensures in
    search rules

pub loop-turn-preserved : goal.loop-turn-preserved
loop-turn-preserved c =
    loop_goes_on (in_braces (limits_of c.args.limits) c.args.depth) (member_more (limits_of c.args.limits) c.args.depth) _ _ c.args.limits.turns c.loop-turn._turn
    c.loop-turn.list c.in_ok-list.list c.loop-turn.tokens c.sees.new.self c.member_more.new.tokens (omega arith) c.loop-turn.invariant c.if-sees.ensures.after
    (ap not c.if-sees.ensures.is) c.in_ok-list.ensures

pub returns-then-not-sees : goal.returns-then-not-sees
returns-then-not-sees c =
    loop_full (in_braces (limits_of c.args.limits) c.args.depth) (member_more (limits_of c.args.limits) c.args.depth) _ _ (c.args.limits.turns - c.loop-turn._turn)
    c.loop-turn.list c.loop-turn.tokens c.sees-2.new.self c.place.result (omega arith) c.loop-turn.invariant c.if-not-sees.ensures.after (ap not c.if-not-sees.ensures.is)
    (c.place.ensures ∙ ap (λ (n : Cursor). place_of (first (drop n.at n.tokens))) c.if-not-sees.ensures.after)

pub returns : goal.returns
returns c =
    loop_ends (in_braces (limits_of c.args.limits) c.args.depth) (member_more (limits_of c.args.limits) c.args.depth) _ _ (c.args.limits.turns - c.loop-turn._turn)
    c.loop-turn.list c.loop-turn.tokens c.sees-2.new.self c.loop-turn.invariant c.if-not-sees.ensures.after (ap not c.if-not-sees.ensures.is)
