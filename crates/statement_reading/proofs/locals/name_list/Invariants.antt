use Rattle.std.proofs.Common.{◌-◌}
use Rattle.slang_tokens.specs.declared.tokens.Mark.TheVariants as m
use Rattle.slang_reading.specs.Kinds.{sees}
use Rattle.slang_reading.specs.Reading.{turns}
use Rattle.slang_reading.proofs.Loops.{Keeps}
use Rattle.statement_grammar.specs.StatementsDescent.{name_more}
use Rattle.type_reading.specs.Limited.{limits_of}
use Rattle.statement_reading.proofs.locals.name_list.Given as goal

abbrev pub invariant-loop-turn : goal.invariant-loop-turn
invariant-loop-turn l =
    let more = name_more (limits_of l.limits) l.depth in
    Keeps (turns (sees m.Comma) more (l.limits.turns - l._turn) l.names) l.tokens (turns (sees m.Comma) more l.limits.turns l.fn.names) l.fn.tokens
