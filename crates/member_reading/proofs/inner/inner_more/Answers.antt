use Rattle.std.proofs.Common.{rules}
use Rattle.slang_reading.specs.Reading.{bind, next}
use Rattle.declaration_grammar.specs.DeclarationsDescent.{inner_more}
use Rattle.type_reading.specs.Limited.{limits_of}
use Rattle.member_reading.proofs.inner.inner_more.Goals as goal

pub returns-then-not-begins_inner : goal.returns-then-not-begins_inner
unfolding inner_more bind next
returns-then-not-begins_inner c =
    let b = c.if-not-begins_inner.ensures.is (limits_of c.args.limits) c.args.depth c.args.fields in
    search rules

pub returns-then-len-limits : goal.returns-then-len-limits
unfolding inner_more bind next
returns-then-len-limits c =
    let b = c.if-not-begins_inner.ensures.is (limits_of c.args.limits) c.args.depth c.args.fields in
    search rules

pub returns-in_err-y : goal.returns-in_err-y
unfolding inner_more bind next
returns-in_err-y c =
    let b = c.if-not-begins_inner.ensures.is (limits_of c.args.limits) c.args.depth c.args.fields in
    search rules

pub returns : goal.returns
unfolding inner_more bind next
returns c =
    let b = c.if-not-begins_inner.ensures.is (limits_of c.args.limits) c.args.depth c.args.fields in
    search rules
