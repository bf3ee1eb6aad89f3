use Rattle.std.proofs.Common.{get_or, ◌∙◌}
use Rattle.run_rooms.proofs.Measuring.{array-is}
use Rattle.run_rooms.proofs.widths.array_type.Goals as goal

pub returns-in-Some : goal.returns-in-Some
returns-in-Some c = λ code g h.
    array-is code g c.args.operands.now c.in-Some.count c.row.result c.in-len3.len_at_least c.in-len3.len_below
    (c.in-Some.ensures ∙ h.numbers (get_or c.args.operands.now 2 0)) (λ stride. c.row.ensures g stride h)
