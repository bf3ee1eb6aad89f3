use Rattle.std.proofs.Common.{sym}
use Rattle.image_calls.proofs.Lengths.{are_arguments-lengths}
use Rattle.image_calls.proofs.arguments.are_arguments.Goals as goal

pub returns-then-types-values : goal.returns-then-types-values
returns-then-types-values c = sym (are_arguments-lengths c.args.definitions.now c.args.types.now c.args.values.now c.if-types-values.true)
