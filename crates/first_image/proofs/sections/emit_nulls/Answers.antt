use Rattle.first_image.proofs.Appending.{first, then}
use Rattle.first_image.proofs.sections.emit_nulls.Goals as goal

pub returns : goal.returns
returns c =
    let a1 = first c.in_ok-push.ensures in
    let a2 = then _ a1 c.in_ok-push-2.ensures in
    let a3 = then _ a2 c.in_ok-push-3.ensures in
    let a4 = then _ a3 c.in_ok-push-4.ensures in
    let a5 = then _ a4 c.in_ok-push-5.ensures in
    let a6 = then _ a5 c.in_ok-push-6.ensures in
    let a7 = then _ a6 c.in_ok-push-7.ensures in
    let a8 = then _ a7 c.in_ok-push-8.ensures in
    let a9 = then _ a8 c.in_ok-push-9.ensures in
    a9.is
