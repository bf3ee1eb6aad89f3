use Rattle.std.proofs.Common.{◌-◌}
use Rattle.slang_tokens.specs.declared.tokens.Mark.TheVariants as m
use Rattle.slang_reading.specs.Kinds.{sees}
use Rattle.slang_reading.specs.Reading.{turns}
use Rattle.slang_reading.proofs.Loops.{Keeps}
use Rattle.type_reading.specs.Limited.{limits_of}
use Rattle.statement_reading.specs.Treeless.{dotted}
use Rattle.statement_reading.proofs.ahead.dots.Given as goal

abbrev pub invariant-loop-turn : goal.invariant-loop-turn
invariant-loop-turn l =
    let more = dotted (limits_of l.limits) in
    Keeps (turns (sees m.Dot) more (l.limits.turns - l._turn) tt) l.tokens (turns (sees m.Dot) more l.limits.turns tt) l.fn.tokens
