use Rattle.std.proofs.Common.{◌+◌, [], ◌∷◌, ◌∙◌, sym, arith}
use Rattle.std.proofs.lemmas.List.{append_assoc}
use Rattle.run_buffers.specs.Parts.{shown}
use Rattle.run_buffers.proofs.Separated.{begun, alone}
use Rattle.run_buffers.proofs.steps.digit.Goals as goal

pub returns-in_default : goal.returns-in_default
returns-in_default c = λ other tail within f.
    let fits = c.in-Some.ensures.0 in
    let more = f ∙ sym (append_assoc (shown c.args.value) ((48 + c.args.digit) ∷ []) tail) in
    let b = begun c.args.field.separator c.args.field.low c.args.field.high c.in-Some.longer _ other tail (omega arith) c.in-Some.ensures.1 within more in
    absurd (let yes = c.begins.ensures.begins.1 b in let no = c.if-begins.false in cc)

pub returns-in_default-2 : goal.returns-in_default-2
returns-in_default-2 c = λ other tail within f.
    let zero = c.in_default.ensures in
    alone c.args.field.separator c.args.field.high other (48 + c.args.digit) tail (omega arith, omega arith) within.1 c.args.field.narrow (rw c.in_default.ensures at f)
