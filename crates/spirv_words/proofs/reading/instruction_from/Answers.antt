use Rattle.std.proofs.Common.{◌≡◌, ◌-◌, ◌/◌, ◌<◌, take, length, refl, sym, ap, ◌∙◌, arith}
use Rattle.std.proofs.lemmas.List.{length-take-le}
use Rattle.std.proofs.lemmas.Grind.{common_steps}
use Rattle.spirv_words.proofs.OneInstruction.{spelled_from}
use Rattle.spirv_words.specs.Unread.{PassesEnd, NoLength, Misfits}
use Rattle.spirv_words.specs.Misfits.{misfit}
use Rattle.spirv_words.proofs.Fitting.{fit}
use Rattle.spirv_words.proofs.reading.instruction_from.Goals as goal

pub returns-then-after-length-clause-refused : goal.returns-then-after-length-clause-refused
returns-then-after-length-clause-refused c =
    rw c.refused-then-after-length.ensures (0, omega arith, PassesEnd c.in-Some.op c.in-Some.ensures.known (omega arith) refl refl)

pub returns-then-length-eq0-clause-refused : goal.returns-then-length-eq0-clause-refused
returns-then-length-eq0-clause-refused c =
    rw c.refused-then-length-eq0.ensures (0, omega arith, NoLength c.in-Some.op c.in-Some.ensures.known c.if-length-eq0.true refl refl)

pub returns-in-Some-misfit-clause-refused : goal.returns-in-Some-misfit-clause-refused
returns-in-Some-misfit-clause-refused c =
    rw c.refused-in-Some-misfit.ensures (c.in-Some-misfit.offset, refl, Misfits c.in-Some.op (c.args.first / 65536 - 1) c.in-Some.ensures.known (omega arith) (omega arith) (sym c.in-Some-misfit.ensures.value) refl)

pub returns-clause-spelled : goal.returns-clause-spelled
returns-clause-spelled c =
    let e : c.in_ok-operands.operands ≡ take (c.args.first / 65536 - 1) c.args.after.now = grind (arith, common_steps) in
    spelled_from _ _ _ _ c.in-Some.ensures.known e (omega arith) (omega arith)

pub returns-clause-is_one : goal.returns-clause-is_one
returns-clause-is_one c =
    let e : c.in_ok-operands.operands ≡ take (c.args.first / 65536 - 1) c.args.after.now = grind (arith, common_steps) in
    let short : length c.in_ok-operands.operands < 65535 = omega (arith, ap length e, length-take-le (c.args.first / 65536 - 1) c.args.after.now (omega arith)) in
    record { layout = fit c.in-Some.op _ (ap (misfit c.in-Some.op) e ∙ sym c.in-None.ensures.value); short = short }
