use Rattle.std.proofs.Common.{◌-◌}
use Rattle.slang_tokens.specs.declared.tokens.Word.TheVariants as w
use Rattle.slang_reading.specs.Kinds.{sees_word}
use Rattle.slang_reading.specs.Reading.{turns}
use Rattle.slang_reading.proofs.Loops.{Keeps}
use Rattle.declaration_grammar.specs.PartsDescent.{constraint_more, constraints}
use Rattle.type_reading.specs.Limited.{limits_of}
use Rattle.part_reading.proofs.conforming.constraints.Given as goal

abbrev pub invariant-loop-turn : goal.invariant-loop-turn
invariant-loop-turn l =
    let more = constraint_more (limits_of l.limits) in
    Keeps (turns (sees_word w.Where) more (l.limits.turns - l._turn) l.list) l.tokens (constraints (limits_of l.limits)) l.fn.tokens
