use Rattle.std.proofs.Common.{◌+◌, ◌-◌, ◌≤◌}
use Rattle.slang_reading.proofs.Loops.{Keeps}
use Rattle.slang_grammar.specs.ExpressionsDescent as spec
use Rattle.type_reading.specs.Limited.{limits_of}
use Rattle.expression_reading.proofs.operators.operators.Given as goal

abbrev pub invariant-loop-turn : goal.invariant-loop-turn
invariant-loop-turn g l =
    let more = spec.operator (limits_of l.limits) l.depth (spec.leveled (limits_of l.limits) l.depth) l.rank in
    record { keeps : Keeps (spec.repeats more (l.limits.turns - l._turn) l.x) l.tokens (spec.repeats more l.limits.turns l.fn.x) l.fn.tokens; within : l.x.1 ≤ l.depth + 1 }
