use Rattle.std.proofs.Common.{arith, sym}
use Rattle.std.proofs.lemmas.Grind.{common_steps}
use Rattle.run_rooms.proofs.Defined.{place-within}
use Rattle.run_rooms.proofs.calls.number_of.Goals as goal

pub returns-else-place-code : goal.returns-else-place-code
returns-else-place-code c =
    let w = place-within c.args.definitions.now c.args.id c.in-Some.place (sym c.in-Some.ensures) in
    let f = c.if-place-code.false in
    let e = c.code.ensures in
    absurd (grind (arith, common_steps))
