use Rattle.std.proofs.Common.{◌≡◌, ℕ, List, refl, ◌∙◌, sym, ap, arith}
use Rattle.std.proofs.lemmas.Grind.{common_steps}
use Rattle.spirv_words.specs.Machine.{meaning_of, result_of}
use Rattle.run_rooms.specs.Widths.{measured}
use Rattle.run_rooms.proofs.Measuring.{add-type, add-value}
use Rattle.run_rooms.proofs.widths.add.Goals as goal

pub returns-in_ok-insert-in-AType : goal.returns-in_ok-insert-in-AType
returns-in_ok-insert-in-AType c = λ code g h.
    let i = c.args.instruction.now in
    let same : c.as_slice-operands.result.now ≡ i.operands = grind (arith, common_steps) in
    add-type c.args.widths.now _ g (result_of i.op i.operands) (meaning_of code g i.op i.operands) c.in-Some.id c.in-AType.words h
    (ap (result_of i.op) (sym same) ∙ sym c.in-Some.ensures)
    (sym c.in-AType.is ∙ c.meaning_of.ensures code g h ∙ ap (λ (os : List ℕ). measured (meaning_of code g i.op os)) same)
    (λ x. refl) c.in_ok-insert-in-AType.ensures.updates.0

pub returns-in_ok-insert-in-AValue : goal.returns-in_ok-insert-in-AValue
returns-in_ok-insert-in-AValue c = λ code g h.
    let i = c.args.instruction.now in
    let same : c.as_slice-operands.result.now ≡ i.operands = grind (arith, common_steps) in
    add-value c.args.widths.now _ g (result_of i.op i.operands) (meaning_of code g i.op i.operands) c.in-Some.id c.in-AValue.number h
    (ap (result_of i.op) (sym same) ∙ sym c.in-Some.ensures)
    (sym c.in-AValue.is ∙ c.meaning_of.ensures code g h ∙ ap (λ (os : List ℕ). measured (meaning_of code g i.op os)) same)
    (λ t. refl) c.in_ok-insert-in-AValue.ensures.updates.0
