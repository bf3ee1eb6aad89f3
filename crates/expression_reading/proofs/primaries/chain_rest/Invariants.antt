use Rattle.std.proofs.Common.{◌+◌, ◌-◌, ◌≤◌}
use Rattle.slang_reading.specs.Reading.{turns}
use Rattle.slang_reading.proofs.Loops.{Keeps}
use Rattle.slang_grammar.specs.ExpressionsDescent as spec
use Rattle.type_reading.specs.Limited.{limits_of}
use Rattle.expression_reading.proofs.primaries.chain_rest.Given as goal

abbrev pub invariant-loop-turn : goal.invariant-loop-turn
invariant-loop-turn g l =
    let goes = spec.chains (limits_of l.limits) l.depth (spec.leveled (limits_of l.limits) l.depth) in
    let more = spec.chain (limits_of l.limits) l.depth (spec.leveled (limits_of l.limits) l.depth) in
    record { keeps : Keeps (turns goes more (l.limits.turns - l._turn) l.x) l.tokens (turns goes more l.limits.turns l.fn.x) l.fn.tokens; within : l.x.1 ≤ l.depth + 1 }
