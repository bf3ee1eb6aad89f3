use Rattle.std.proofs.Common.{rules, ◌-◌, ◌∙◌, ap, drop, arith}
use Rattle.slang_reading.specs.Reading.{first, place_of}
use Rattle.slang_reading.specs.Cursor.{Cursor}
use Rattle.slang_reading.proofs.Loops.{loop_ends, loop_full, loop_goes_on, loop_fails}
use Rattle.declaration_grammar.specs.DeclarationsDescent.{is_token, item_more}
use Rattle.type_reading.specs.Limited.{limits_of}
use Rattle.declaration_reading.proofs.descent.items.Goals as goal

pub returns-then-not-sees_token : goal.returns-then-not-sees_token
returns-then-not-sees_token c =
    loop_ends (is_token (limits_of c.args.limits) c.args.depth) (item_more (limits_of c.args.limits) c.args.depth) _ _ (c.args.limits.turns - c.loop-turn._turn)
    c.loop-turn.list c.loop-turn.tokens c.sees_token.new.tokens c.loop-turn.invariant c.if-not-sees_token.ensures.after
    (c.if-not-sees_token.ensures.is (limits_of c.args.limits) c.args.depth)

pub returns-in_err-list : goal.returns-in_err-list
returns-in_err-list c =
    let e = loop_fails (is_token (limits_of c.args.limits) c.args.depth) (item_more (limits_of c.args.limits) c.args.depth) _ _ c.args.limits.turns c.loop-turn._turn
    c.loop-turn.list c.in_err-list.field-0.0 c.loop-turn.tokens c.sees_token.new.tokens c.item_more.new.tokens (omega arith) c.loop-turn.invariant
    c.if-not-sees_token.ensures.after (c.if-not-sees_token.ensures.is (limits_of c.args.limits) c.args.depth) c.in_err-list.ensures in
    search rules

pub loop-turn-preserved : goal.loop-turn-preserved
loop-turn-preserved c =
    loop_goes_on (is_token (limits_of c.args.limits) c.args.depth) (item_more (limits_of c.args.limits) c.args.depth) _ _ c.args.limits.turns c.loop-turn._turn
    c.loop-turn.list c.in_ok-list.list c.loop-turn.tokens c.sees_token.new.tokens c.item_more.new.tokens (omega arith) c.loop-turn.invariant
    c.if-not-sees_token.ensures.after (c.if-not-sees_token.ensures.is (limits_of c.args.limits) c.args.depth) c.in_ok-list.ensures

pub returns-then-sees_token : goal.returns-then-sees_token
returns-then-sees_token c =
    loop_full (is_token (limits_of c.args.limits) c.args.depth) (item_more (limits_of c.args.limits) c.args.depth) _ _ (c.args.limits.turns - c.loop-turn._turn)
    c.loop-turn.list c.loop-turn.tokens c.sees_token-2.new.tokens c.place.result (omega arith) c.loop-turn.invariant c.if-sees_token.ensures.after
    (c.if-sees_token.ensures.is (limits_of c.args.limits) c.args.depth)
    (c.place.ensures ∙ ap (λ (n : Cursor). place_of (first (drop n.at n.tokens))) c.if-sees_token.ensures.after)

pub returns : goal.returns
returns c =
    loop_ends (is_token (limits_of c.args.limits) c.args.depth) (item_more (limits_of c.args.limits) c.args.depth) _ _ (c.args.limits.turns - c.loop-turn._turn)
    c.loop-turn.list c.loop-turn.tokens c.sees_token-2.new.tokens c.loop-turn.invariant c.if-sees_token.ensures.after
    (c.if-sees_token.ensures.is (limits_of c.args.limits) c.args.depth)
