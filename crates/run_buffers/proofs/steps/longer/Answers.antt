use Rattle.std.proofs.Common.{arith}
use Rattle.std.proofs.lemmas.Fmt.{decimal_digit}
use Rattle.run_buffers.proofs.Separated.{longer_decimal}
use Rattle.run_buffers.proofs.steps.longer.Goals as goal

pub returns-in-None : goal.returns-in-None
returns-in-None c = (omega arith, rw c.in-None.is (decimal_digit c.args.digit (omega arith)))

pub returns-else-v-eq0 : goal.returns-else-v-eq0
returns-else-v-eq0 c =
    let small = rw c.in-Some.is at c.requires.narrow in
    (omega arith, rw c.in-Some.is (longer_decimal c.in-Some.v c.args.digit (omega arith) small c.requires.few))
