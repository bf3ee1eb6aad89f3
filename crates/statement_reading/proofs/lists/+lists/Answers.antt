use Rattle.std.proofs.Common.{rules, true, ℕ, zero, suc, refl, ◌≡◌, ◌-◌, ◌+◌, ◌<◌, ◌∙◌, ap, drop, arith}
use Rattle.slang_tokens.specs.declared.tokens.Mark.TheVariants as m
use Rattle.slang_reading.specs.Kinds.{sees}
use Rattle.slang_reading.specs.Reading.{first, place_of}
use Rattle.slang_reading.specs.Cursor.{Cursor}
use Rattle.slang_reading.proofs.Loops.{loop_ends, loop_full, loop_goes_on, loop_fails}
use Rattle.slang_grammar.specs.Descent.{Limits}
use Rattle.slang_grammar.specs.ExpressionsDescent.{expressions}
use Rattle.statement_grammar.specs.StatementsDescent.{item_more, initial, initials}
use Rattle.type_reading.specs.Limited.{limits_of}
use Rattle.statement_reading.proofs.lists.+lists.Goals as goal

pub item_list-returns-then-not-sees : goal.item_list-returns-then-not-sees
item_list-returns-then-not-sees t c =
    loop_ends (sees m.Comma) (item_more (limits_of c.args.limits) true c.args.depth (expressions (limits_of c.args.limits) (c.args.depth + 1)) (initials (limits_of c.args.limits) c.args.depth)) _ _ (c.args.limits.turns - c.loop-turn._turn)
    c.loop-turn.list c.loop-turn.tokens c.sees.new.self c.loop-turn.invariant c.if-not-sees.ensures.after c.if-not-sees.ensures.is

pub item_list-returns-in_err-list : goal.item_list-returns-in_err-list
item_list-returns-in_err-list t c =
    let e = loop_fails (sees m.Comma) (item_more (limits_of c.args.limits) true c.args.depth (expressions (limits_of c.args.limits) (c.args.depth + 1)) (initials (limits_of c.args.limits) c.args.depth)) _ _ c.args.limits.turns c.loop-turn._turn
    c.loop-turn.list c.in_err-list.field-0.0 c.loop-turn.tokens c.sees.new.self
    c.item_more.new.tokens (omega arith) c.loop-turn.invariant c.if-not-sees.ensures.after c.if-not-sees.ensures.is c.in_err-list.ensures in
    search rules

pub item_list-loop-turn-preserved : goal.item_list-loop-turn-preserved
item_list-loop-turn-preserved t c =
    loop_goes_on (sees m.Comma) (item_more (limits_of c.args.limits) true c.args.depth (expressions (limits_of c.args.limits) (c.args.depth + 1)) (initials (limits_of c.args.limits) c.args.depth)) _ _ c.args.limits.turns c.loop-turn._turn
    c.loop-turn.list c.in_ok-list.list c.loop-turn.tokens c.sees.new.self
    c.item_more.new.tokens (omega arith) c.loop-turn.invariant c.if-not-sees.ensures.after c.if-not-sees.ensures.is c.in_ok-list.ensures

pub item_list-returns-then-sees : goal.item_list-returns-then-sees
item_list-returns-then-sees t c =
    loop_full (sees m.Comma) (item_more (limits_of c.args.limits) true c.args.depth (expressions (limits_of c.args.limits) (c.args.depth + 1)) (initials (limits_of c.args.limits) c.args.depth)) _ _ (c.args.limits.turns - c.loop-turn._turn)
    c.loop-turn.list c.loop-turn.tokens c.sees-2.new.self
    c.place.result (omega arith) c.loop-turn.invariant c.if-sees.ensures.after c.if-sees.ensures.is
    (c.place.ensures ∙ ap (λ (n : Cursor). place_of (first (drop n.at n.tokens))) c.if-sees.ensures.after)

pub item_list-returns : goal.item_list-returns
item_list-returns t c =
    loop_ends (sees m.Comma) (item_more (limits_of c.args.limits) true c.args.depth (expressions (limits_of c.args.limits) (c.args.depth + 1)) (initials (limits_of c.args.limits) c.args.depth)) _ _ (c.args.limits.turns - c.loop-turn._turn)
    c.loop-turn.list c.loop-turn.tokens c.sees-2.new.self
    c.loop-turn.invariant c.if-sees.ensures.after c.if-sees.ensures.is

-- the number of nodes is not 0
initials_at : (limits : Limits) (d : ℕ) → 0 < d → initials limits d ≡ initial limits true (d - 1) (expressions limits (d - 1 + 1)) (initials limits (d - 1))
unfolding initials
initials_at limits zero h = absurd (omega arith)
initials_at limits (suc d) h = let e : suc d - 1 ≡ d = omega arith in let f : d + 1 ≡ suc d = omega arith in rw e (rw f refl)

pub initials-returns : goal.initials-returns
initials-returns t c = rw (initials_at (limits_of c.args.limits) c.args.depth (omega arith)) c.initial.ensures
