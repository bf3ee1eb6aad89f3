use Rattle.run_rooms.proofs.Measuring.{vector-is}
use Rattle.run_rooms.proofs.widths.vector_type.Goals as goal

pub returns-in-len3 : goal.returns-in-len3
returns-in-len3 c = λ code g h.
    vector-is code g c.args.operands.now c.row.result c.in-len3.len_at_least c.in-len3.len_below (c.row.ensures g 4 h)
