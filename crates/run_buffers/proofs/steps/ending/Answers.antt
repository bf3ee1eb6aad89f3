use Rattle.std.proofs.Common.{◌≡◌, ◌<◌, ◌∙◌, sym, ap, refl, ◌^◌, arith}
use Rattle.std.proofs.lemmas.Fmt.{decimal_injective}
use Rattle.run_buffers.specs.Parts.{shown, behind}
use Rattle.run_buffers.proofs.Separated.{ended, not_empty, shown_digits}
use Rattle.run_buffers.proofs.steps.ending.Goals as goal

pub returns-in-Some : goal.returns-in-Some
returns-in-Some c =
    let below = rw c.in-Some.is at c.requires.narrow in
    let same : c.args.b ≡ behind c.args.field.separator c.in-Some.v = c.if-b-byte_behind.true ∙ c.byte_behind.ensures in
    ((c.if-field-v.true, below), rw (c.in-Some.is, same) refl)

pub returns-in_default : goal.returns-in_default
returns-in_default c = λ other tail within f.
    let small : other < 2 ^ 32 = let h = within.1 in let n = c.args.field.narrow in omega arith in
    let e = ended c.args.field.separator (shown c.args.value) other c.args.b tail (shown_digits c.args.value c.args.field.low c.args.field.high c.args.field.narrow c.requires.begun) c.requires.other small f in
    let below = rw c.in-Some.is at c.requires.narrow in
    let d = rw c.in-Some.is at e.0 in
    let same = decimal_injective other c.in-Some.v (omega arith) (let n = c.args.field.narrow in omega arith) d in
    absurd (c.if-b-byte_behind.false (sym e.1 ∙ (ap (behind c.args.field.separator) same ∙ sym c.byte_behind.ensures)))

pub returns-in_default-2 : goal.returns-in_default-2
returns-in_default-2 c = λ other tail within f.
    let small : other < 2 ^ 32 = let h = within.1 in let n = c.args.field.narrow in omega arith in
    let e = ended c.args.field.separator (shown c.args.value) other c.args.b tail (shown_digits c.args.value c.args.field.low c.args.field.high c.args.field.narrow c.requires.begun) c.requires.other small f in
    let below = rw c.in-Some.is at c.requires.narrow in
    let d = rw c.in-Some.is at e.0 in
    let same = decimal_injective other c.in-Some.v (omega arith) (let n = c.args.field.narrow in omega arith) d in
    let h = within.0 in
    omega arith

pub returns-in_default-3 : goal.returns-in_default-3
returns-in_default-3 c = λ other tail within f.
    let small : other < 2 ^ 32 = let h = within.1 in let n = c.args.field.narrow in omega arith in
    let e = ended c.args.field.separator (shown c.args.value) other c.args.b tail (shown_digits c.args.value c.args.field.low c.args.field.high c.args.field.narrow c.requires.begun) c.requires.other small f in
    let d = rw c.in_default.is at e.0 in
    not_empty other small d
