use Rattle.std.proofs.Common.{◌-◌, []}
use Rattle.slang_reading.specs.Reading.{turns}
use Rattle.slang_reading.proofs.Loops.{Keeps}
use Rattle.declaration_grammar.specs.DeclarationsDescent.{in_braces, inner_more}
use Rattle.type_reading.specs.Limited.{limits_of}
use Rattle.member_reading.proofs.inner.inner_members.Given as goal

abbrev pub invariant-loop-turn : goal.invariant-loop-turn
invariant-loop-turn l =
    let goes = in_braces (limits_of l.limits) l.depth in
    let more = inner_more (limits_of l.limits) l.depth l.fields in
    Keeps (turns goes more (l.limits.turns - l._turn) l.list) l.tokens (turns goes more l.limits.turns []) l.fn.tokens
