use Rattle.std.proofs.Common.{◌-◌, ◌≤◌}
use Rattle.slang_tokens.specs.declared.tokens.Mark.TheVariants as m
use Rattle.slang_reading.specs.Kinds.{sees}
use Rattle.slang_reading.specs.Reading.{turns}
use Rattle.slang_reading.proofs.Loops.{Keeps}
use Rattle.slang_grammar.specs.ExpressionsDescent as spec
use Rattle.type_reading.specs.Limited.{limits_of}
use Rattle.expression_reading.proofs.values.value_list.Given as goal

abbrev pub invariant-loop-turn : goal.invariant-loop-turn
invariant-loop-turn g l =
    let more = spec.value_more (limits_of l.limits) l.depth (spec.leveled (limits_of l.limits) l.depth) in
    record { keeps : Keeps (turns (sees m.Comma) more (l.limits.turns - l._turn) l.list) l.tokens (turns (sees m.Comma) more l.limits.turns l.fn.list) l.fn.tokens; within : l.list.1 ≤ l.depth }
