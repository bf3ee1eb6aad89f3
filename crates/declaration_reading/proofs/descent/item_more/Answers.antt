use Rattle.std.proofs.Common.{rules}
use Rattle.slang_reading.specs.Reading.{bind}
use Rattle.declaration_grammar.specs.DeclarationsDescent.{item_more}
use Rattle.type_reading.specs.Limited.{limits_of}
use Rattle.declaration_reading.proofs.descent.item_more.Goals as goal

pub returns-in_err-access : goal.returns-in_err-access
unfolding item_more bind
returns-in_err-access c =
    let e = c.in_err-access.ensures (limits_of c.args.limits) c.args.depth in
    search rules

pub item_node-requires : goal.item_node-requires
item_node-requires c =
    let e = c.in_ok-access.ensures (limits_of c.args.limits) c.args.depth in
    search rules

pub returns-in_err-node : goal.returns-in_err-node
unfolding item_more bind
returns-in_err-node c =
    let e = c.in_ok-access.ensures (limits_of c.args.limits) c.args.depth in
    search rules

pub returns : goal.returns
unfolding item_more bind
returns c =
    let e = c.in_ok-access.ensures (limits_of c.args.limits) c.args.depth in
    search rules
