use Rattle.std.proofs.Common.{length, ap, arith}
use Rattle.first_image.proofs.ConstantLists.{length-constants}
use Rattle.first_image.proofs.ids.Ids.of.Goals as goal

pub invariant_of-result : goal.invariant_of-result
invariant_of-result c =
    let made = c.in_ok-numbers.ensures in
    record { ascending = made.ascending; few = omega (arith, ap length made.numbers, length-constants c.args.statements.now c.requires.short) }
