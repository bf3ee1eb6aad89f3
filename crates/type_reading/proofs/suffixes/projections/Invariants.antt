use Rattle.std.proofs.Common.{◌-◌, ◌≤◌}
use Rattle.slang_tokens.specs.declared.tokens.Mark.TheVariants as m
use Rattle.slang_reading.specs.Kinds.{sees}
use Rattle.slang_reading.specs.Reading.{turns}
use Rattle.slang_reading.proofs.Loops.{Keeps}
use Rattle.slang_grammar.specs.TypesDescent as types
use Rattle.type_reading.specs.Limited.{limits_of}
use Rattle.type_reading.proofs.suffixes.projections.Given as goal

abbrev pub invariant-loop-turn : goal.invariant-loop-turn
invariant-loop-turn l =
    let more = types.project (limits_of l.limits) l.depth in
    record { keeps : Keeps (turns (sees m.Dot) more (l.limits.turns - l._turn) l.x) l.tokens (turns (sees m.Dot) more l.limits.turns l.fn.x) l.fn.tokens; within : l.x.1 ≤ l.depth }
