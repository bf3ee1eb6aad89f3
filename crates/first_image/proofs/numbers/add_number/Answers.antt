use Rattle.std.proofs.Common.{◌∙◌}
use Rattle.first_image.proofs.ConstantLists.{insert_key-insert}
use Rattle.first_image.proofs.numbers.add_number.Goals as goal

pub returns : goal.returns
returns c = c.in_ok-insert.ensures.keys ∙ insert_key-insert c.args.number c.args.numbers.now.keys
