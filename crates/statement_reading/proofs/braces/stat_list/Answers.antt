use Rattle.std.proofs.Common.{rules, true, ◌-◌, ◌∙◌, ap, drop, arith}
use Rattle.slang_reading.specs.Reading.{first, place_of}
use Rattle.slang_reading.specs.Cursor.{Cursor}
use Rattle.slang_reading.proofs.Loops.{loop_ends, loop_full, loop_goes_on, loop_fails}
use Rattle.statement_grammar.specs.StatementsDescent.{in_block, stat_more, statements}
use Rattle.type_reading.specs.Limited.{limits_of}
use Rattle.statement_reading.proofs.braces.stat_list.Goals as goal

pub returns-then-not-in_block : goal.returns-then-not-in_block
returns-then-not-in_block g c =
    loop_ends (in_block (limits_of c.args.limits) true c.args.depth (statements (limits_of c.args.limits) c.args.depth)) (stat_more (limits_of c.args.limits) true c.args.depth (statements (limits_of c.args.limits) c.args.depth)) _ _
    (c.args.limits.turns - c.loop-turn._turn) c.loop-turn.list c.loop-turn.tokens c.in_block.new.tokens c.loop-turn.invariant c.if-not-in_block.ensures.after c.if-not-in_block.ensures.is

pub returns-in_err-list : goal.returns-in_err-list
returns-in_err-list g c =
    let e = loop_fails (in_block (limits_of c.args.limits) true c.args.depth (statements (limits_of c.args.limits) c.args.depth)) (stat_more (limits_of c.args.limits) true c.args.depth (statements (limits_of c.args.limits) c.args.depth)) _ _
    c.args.limits.turns c.loop-turn._turn c.loop-turn.list c.in_err-list.field-0.0 c.loop-turn.tokens c.in_block.new.tokens
    c.stat_more.new.tokens (omega arith) c.loop-turn.invariant c.if-not-in_block.ensures.after c.if-not-in_block.ensures.is c.in_err-list.ensures in
    search rules

pub loop-turn-preserved : goal.loop-turn-preserved
loop-turn-preserved g c =
    loop_goes_on (in_block (limits_of c.args.limits) true c.args.depth (statements (limits_of c.args.limits) c.args.depth)) (stat_more (limits_of c.args.limits) true c.args.depth (statements (limits_of c.args.limits) c.args.depth)) _ _
    c.args.limits.turns c.loop-turn._turn c.loop-turn.list c.in_ok-list.list c.loop-turn.tokens c.in_block.new.tokens
    c.stat_more.new.tokens (omega arith) c.loop-turn.invariant c.if-not-in_block.ensures.after c.if-not-in_block.ensures.is c.in_ok-list.ensures

pub returns-then-in_block : goal.returns-then-in_block
returns-then-in_block g c =
    loop_full (in_block (limits_of c.args.limits) true c.args.depth (statements (limits_of c.args.limits) c.args.depth)) (stat_more (limits_of c.args.limits) true c.args.depth (statements (limits_of c.args.limits) c.args.depth)) _ _
    (c.args.limits.turns - c.loop-turn._turn) c.loop-turn.list c.loop-turn.tokens c.in_block-2.new.tokens
    c.place.result (omega arith) c.loop-turn.invariant c.if-in_block.ensures.after c.if-in_block.ensures.is
    (c.place.ensures ∙ ap (λ (n : Cursor). place_of (first (drop n.at n.tokens))) c.if-in_block.ensures.after)

pub returns : goal.returns
returns g c =
    loop_ends (in_block (limits_of c.args.limits) true c.args.depth (statements (limits_of c.args.limits) c.args.depth)) (stat_more (limits_of c.args.limits) true c.args.depth (statements (limits_of c.args.limits) c.args.depth)) _ _
    (c.args.limits.turns - c.loop-turn._turn) c.loop-turn.list c.loop-turn.tokens c.in_block-2.new.tokens c.loop-turn.invariant c.if-in_block.ensures.after c.if-in_block.ensures.is
