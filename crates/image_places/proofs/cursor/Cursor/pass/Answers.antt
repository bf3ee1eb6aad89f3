use Rattle.std.proofs.Common.{refl, arith}
use Rattle.image_places.proofs.Passing.{passed}
use Rattle.image_places.proofs.cursor.Cursor.pass.Goals as goal

pub returns : goal.returns
returns c is k at here = passed is k c.args.self.now c.args.instruction.now _ _ _ _ at here refl (omega arith) c.under_function-self.ensures c.under_label-self.ensures
