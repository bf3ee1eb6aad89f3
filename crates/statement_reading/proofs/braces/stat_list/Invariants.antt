use Rattle.std.proofs.Common.{true, ◌-◌}
use Rattle.slang_reading.specs.Reading.{turns}
use Rattle.slang_reading.proofs.Loops.{Keeps}
use Rattle.statement_grammar.specs.StatementsDescent as spec
use Rattle.type_reading.specs.Limited.{limits_of}
use Rattle.statement_reading.proofs.braces.stat_list.Given as goal

abbrev pub invariant-loop-turn : goal.invariant-loop-turn
invariant-loop-turn g l =
    let inner = spec.statements (limits_of l.limits) l.depth in
    let more = spec.stat_more (limits_of l.limits) true l.depth inner in
    let goes = spec.in_block (limits_of l.limits) true l.depth inner in
    Keeps (turns goes more (l.limits.turns - l._turn) l.list) l.tokens (turns goes more l.limits.turns l.fn.list) l.fn.tokens
