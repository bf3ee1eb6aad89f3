use Rattle.std.proofs.Common.{rules, ◌-◌, ◌∙◌, ap, drop, arith}
use Rattle.slang_tokens.specs.declared.tokens.Word.TheVariants as w
use Rattle.slang_reading.specs.Kinds.{sees_word}
use Rattle.slang_reading.specs.Reading.{first, place_of}
use Rattle.slang_reading.specs.Cursor.{Cursor}
use Rattle.slang_reading.proofs.Loops.{loop_ends, loop_full, loop_goes_on, loop_fails}
use Rattle.declaration_grammar.specs.DeclarationsDescent.{import_more}
use Rattle.type_reading.specs.Limited.{limits_of}
use Rattle.declaration_reading.proofs.lines.imports.Goals as goal

pub returns-then-not-sees_word : goal.returns-then-not-sees_word
returns-then-not-sees_word c =
    loop_ends (sees_word w.Import) (import_more (limits_of c.args.limits) c.args.depth) _ _ (c.args.limits.turns - c.loop-turn._turn) c.loop-turn.list c.loop-turn.tokens c.sees_word.new.self
    c.loop-turn.invariant c.if-not-sees_word.ensures.after c.if-not-sees_word.ensures.is

pub returns-in_err-list : goal.returns-in_err-list
returns-in_err-list c =
    let e = loop_fails (sees_word w.Import) (import_more (limits_of c.args.limits) c.args.depth) _ _ c.args.limits.turns c.loop-turn._turn c.loop-turn.list c.in_err-list.field-0.0 c.loop-turn.tokens c.sees_word.new.self
    c.import_more.new.tokens (omega arith) c.loop-turn.invariant c.if-not-sees_word.ensures.after c.if-not-sees_word.ensures.is c.in_err-list.ensures in
    search rules

pub loop-turn-preserved : goal.loop-turn-preserved
loop-turn-preserved c =
    loop_goes_on (sees_word w.Import) (import_more (limits_of c.args.limits) c.args.depth) _ _ c.args.limits.turns c.loop-turn._turn c.loop-turn.list c.in_ok-list.list c.loop-turn.tokens c.sees_word.new.self
    c.import_more.new.tokens (omega arith) c.loop-turn.invariant c.if-not-sees_word.ensures.after c.if-not-sees_word.ensures.is c.in_ok-list.ensures

pub returns-then-sees_word : goal.returns-then-sees_word
returns-then-sees_word c =
    loop_full (sees_word w.Import) (import_more (limits_of c.args.limits) c.args.depth) _ _ (c.args.limits.turns - c.loop-turn._turn) c.loop-turn.list c.loop-turn.tokens c.sees_word-2.new.self
    c.place.result (omega arith) c.loop-turn.invariant c.if-sees_word.ensures.after c.if-sees_word.ensures.is
    (c.place.ensures ∙ ap (λ (n : Cursor). place_of (first (drop n.at n.tokens))) c.if-sees_word.ensures.after)

pub returns : goal.returns
returns c =
    loop_ends (sees_word w.Import) (import_more (limits_of c.args.limits) c.args.depth) _ _ (c.args.limits.turns - c.loop-turn._turn) c.loop-turn.list c.loop-turn.tokens c.sees_word-2.new.self
    c.loop-turn.invariant c.if-sees_word.ensures.after c.if-sees_word.ensures.is
