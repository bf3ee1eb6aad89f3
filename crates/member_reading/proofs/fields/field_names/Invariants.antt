use Rattle.std.proofs.Common.{◌-◌}
use Rattle.slang_tokens.specs.declared.tokens.Mark.TheVariants as m
use Rattle.slang_reading.specs.Kinds.{sees}
use Rattle.slang_reading.specs.Reading.{turns}
use Rattle.slang_reading.proofs.Loops.{Keeps}
use Rattle.declaration_grammar.specs.DeclarationsDescent.{field_more}
use Rattle.type_reading.specs.Limited.{limits_of}
use Rattle.member_reading.proofs.fields.field_names.Given as goal

abbrev pub invariant-loop-turn : goal.invariant-loop-turn
invariant-loop-turn l =
    let more = field_more (limits_of l.limits) 0 in
    Keeps (turns (sees m.Comma) more (l.limits.turns - l._turn) l.list) l.tokens (turns (sees m.Comma) more l.limits.turns l.fn.list) l.fn.tokens
