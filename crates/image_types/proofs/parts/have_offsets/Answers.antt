use Rattle.std.proofs.Common.{sym, arith}
use Rattle.std.proofs.lemmas.Grind.{common_steps}
use Rattle.image_types.proofs.Lengths.{have_offsets-lacks}
use Rattle.image_types.proofs.parts.have_offsets.Goals as goal

pub returns-then-is_none : goal.returns-then-is_none
returns-then-is_none c = sym (have_offsets-lacks c.args.image.now c.args.id c.args.count c.loop-member.member c.loop-member-test.true (grind (arith, common_steps)))
