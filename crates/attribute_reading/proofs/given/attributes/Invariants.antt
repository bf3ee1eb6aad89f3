use Rattle.std.proofs.Common.{◌-◌}
use Rattle.slang_tokens.specs.declared.tokens.Mark.TheVariants as m
use Rattle.slang_reading.specs.Kinds.{sees}
use Rattle.slang_reading.specs.Reading.{turns}
use Rattle.slang_reading.proofs.Loops.{Keeps}
use Rattle.statement_grammar.specs.AttributesDescent.{attribute, attributes}
use Rattle.type_reading.specs.Limited.{limits_of}
use Rattle.attribute_reading.proofs.given.attributes.Given as goal

abbrev pub invariant-loop-turn : goal.invariant-loop-turn
invariant-loop-turn l =
    let more = attribute (limits_of l.limits) l.targets in
    Keeps (turns (sees m.OpenBracket) more (l.limits.turns - l._turn) l.given) l.tokens (attributes (limits_of l.limits) l.targets) l.fn.tokens
