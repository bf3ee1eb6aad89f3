use Rattle.std.proofs.Common.{rules}
use Rattle.slang_reading.specs.Reading.{bind, next}
use Rattle.declaration_grammar.specs.DeclarationsDescent.{requirement_more}
use Rattle.type_reading.specs.Limited.{limits_of}
use Rattle.declaration_reading.proofs.interfaces.requirement_more.Goals as goal

pub returns-then-not-begins_requirement : goal.returns-then-not-begins_requirement
unfolding requirement_more bind next
returns-then-not-begins_requirement c =
    let b = c.if-not-begins_requirement.ensures.is (limits_of c.args.limits) c.args.depth in
    search rules

pub returns-then-len-limits : goal.returns-then-len-limits
unfolding requirement_more bind next
returns-then-len-limits c =
    let b = c.if-not-begins_requirement.ensures.is (limits_of c.args.limits) c.args.depth in
    search rules

pub returns-in_err-y : goal.returns-in_err-y
unfolding requirement_more bind next
returns-in_err-y c =
    let b = c.if-not-begins_requirement.ensures.is (limits_of c.args.limits) c.args.depth in
    search rules

pub returns : goal.returns
unfolding requirement_more bind next
returns c =
    let b = c.if-not-begins_requirement.ensures.is (limits_of c.args.limits) c.args.depth in
    search rules
