use Rattle.std.proofs.Common.{rules, true, ℕ, zero, suc, refl, ◌≡◌, ◌-◌, ◌<◌, ◌∙◌, ap, drop, arith}
use Rattle.slang_tokens.specs.declared.tokens.Mark.TheVariants as m
use Rattle.slang_reading.specs.Kinds.{sees}
use Rattle.slang_reading.specs.Reading.{first, place_of, ◌>>=◌}
use Rattle.slang_reading.specs.Cursor.{Cursor}
use Rattle.slang_reading.proofs.Loops.{loop_ends, loop_full, loop_goes_on, loop_fails, runs_bind}
use Rattle.slang_grammar.specs.Descent.{Limits}
use Rattle.slang_grammar.specs.TypesDescent.{argument_more, type_name, type_rest, types}
use Rattle.type_reading.specs.Limited.{limits_of}
use Rattle.type_reading.proofs.descent.+types.Goals as goal

pub argument_list-returns-then-not-sees-clause-reads : goal.argument_list-returns-then-not-sees-clause-reads
argument_list-returns-then-not-sees-clause-reads t c =
    loop_ends (sees m.Comma) (argument_more (limits_of c.args.limits) true c.args.depth (types (limits_of c.args.limits) c.args.depth)) _ _ (c.args.limits.turns - c.loop-turn._turn) c.loop-turn.list c.loop-turn.tokens c.sees.new.self
    c.loop-turn.invariant.keeps c.if-not-sees.ensures.after c.if-not-sees.ensures.is

pub argument_list-returns-in_err-list-clause-reads : goal.argument_list-returns-in_err-list-clause-reads
argument_list-returns-in_err-list-clause-reads t c =
    let e = loop_fails (sees m.Comma) (argument_more (limits_of c.args.limits) true c.args.depth (types (limits_of c.args.limits) c.args.depth)) _ _ c.args.limits.turns c.loop-turn._turn c.loop-turn.list c.in_err-list.field-0.0 c.loop-turn.tokens c.sees.new.self
    c.argument_more.new.tokens (omega arith) c.loop-turn.invariant.keeps c.if-not-sees.ensures.after c.if-not-sees.ensures.is c.in_err-list.ensures.reads in
    search rules

pub argument_list-loop-turn-preserved : goal.argument_list-loop-turn-preserved
argument_list-loop-turn-preserved t c = record {
  keeps = loop_goes_on (sees m.Comma) (argument_more (limits_of c.args.limits) true c.args.depth (types (limits_of c.args.limits) c.args.depth)) _ _ c.args.limits.turns c.loop-turn._turn c.loop-turn.list c.in_ok-list.list c.loop-turn.tokens c.sees.new.self
      c.argument_more.new.tokens (omega arith) c.loop-turn.invariant.keeps c.if-not-sees.ensures.after c.if-not-sees.ensures.is c.in_ok-list.ensures.reads;
  within = c.in_ok-list.ensures.within;
}

pub argument_list-returns-then-sees-clause-reads : goal.argument_list-returns-then-sees-clause-reads
argument_list-returns-then-sees-clause-reads t c =
    loop_full (sees m.Comma) (argument_more (limits_of c.args.limits) true c.args.depth (types (limits_of c.args.limits) c.args.depth)) _ _ (c.args.limits.turns - c.loop-turn._turn) c.loop-turn.list c.loop-turn.tokens c.sees-2.new.self
    c.place.result (omega arith) c.loop-turn.invariant.keeps c.if-sees.ensures.after c.if-sees.ensures.is
    (c.place.ensures ∙ ap (λ (n : Cursor). place_of (first (drop n.at n.tokens))) c.if-sees.ensures.after)

pub argument_list-returns-clause-reads : goal.argument_list-returns-clause-reads
argument_list-returns-clause-reads t c =
    loop_ends (sees m.Comma) (argument_more (limits_of c.args.limits) true c.args.depth (types (limits_of c.args.limits) c.args.depth)) _ _ (c.args.limits.turns - c.loop-turn._turn) c.loop-turn.list c.loop-turn.tokens c.sees-2.new.self
    c.loop-turn.invariant.keeps c.if-sees.ensures.after c.if-sees.ensures.is

-- the number of nodes is not 0
types_at : (limits : Limits) (d : ℕ) → 0 < d → types limits d ≡ (type_name limits true (d - 1) (types limits (d - 1)) >>= type_rest limits d)
unfolding types
types_at limits zero h = absurd (omega arith)
types_at limits (suc d) h = let e : suc d - 1 ≡ d = omega arith in rw e refl

pub types-returns-clause-reads : goal.types-returns-clause-reads
types-returns-clause-reads t c =
    rw (types_at (limits_of c.args.limits) c.args.depth (omega arith))
    (runs_bind (type_name (limits_of c.args.limits) true (c.args.depth - 1) (types (limits_of c.args.limits) (c.args.depth - 1))) (type_rest (limits_of c.args.limits) c.args.depth)
    c.in_ok-x.x c.args.tokens.now c.type_name.new.tokens _ _ c.in_ok-x.ensures.reads c.type_rest.ensures.reads)
