use Rattle.std.proofs.Common.{◌∙◌}
use Rattle.run_rooms.proofs.Measuring.{struct-is}
use Rattle.run_rooms.proofs.widths.struct_type.Goals as goal

pub returns-in-len1-up : goal.returns-in-len1-up
returns-in-len1-up c = λ code g h.
    c.plain.ensures ∙ struct-is code c.args.widths.now g c.args.operands.now c.members_words.result c.in-len1-up.len_at_least h c.members_words.ensures
