use Rattle.std.proofs.Common.{sym}
use Rattle.image_operands.proofs.Lengths.{are_members-lengths}
use Rattle.image_operands.proofs.composites.are_members.Goals as goal

pub returns-then-types-values : goal.returns-then-types-values
returns-then-types-values c = sym (are_members-lengths c.args.image.now c.args.types.now c.args.values.now c.if-types-values.true)
