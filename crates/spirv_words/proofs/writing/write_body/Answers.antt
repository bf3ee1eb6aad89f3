use Rattle.std.proofs.Common.{◌≡◌, ◌++◌, take, get_or, sym, ap, ◌∙◌, append_assoc, add-one}
use Rattle.spirv_words.specs.Words.{instruction_words, body_words}
use Rattle.spirv_words.proofs.Written.{is_instruction_at, body_words-one_more}
use Rattle.spirv_words.proofs.writing.write_body.Goals as goal

pub write_instruction-requires : goal.write_instruction-requires
write_instruction-requires c =
    rw c.instruction-item.is (is_instruction_at c.args.body.now c.loop-instruction.instruction-index c.instruction-item.result c.requires c.loop-instruction-test.true)

pub loop-instruction-preserved : goal.loop-instruction-preserved
loop-instruction-preserved c =
    let xs = c.args.body.now in
    let k = c.loop-instruction.instruction-index in
    let e = body_words-one_more xs k c.instruction-item.result c.loop-instruction-test.true in
    let is : instruction_words c.instruction-item.result ≡ instruction_words (get_or xs k c.instruction-item.result) = ap instruction_words c.instruction-item.is in
    c.in_ok-write_instruction.ensures
    ∙ ap (λ l. l ++ instruction_words c.instruction-item.result) c.loop-instruction.invariant
    ∙ append_assoc c.args.words.now.items (body_words (take k xs)) (instruction_words c.instruction-item.result)
    ∙ ap (λ l. c.args.words.now.items ++ (body_words (take k xs) ++ l)) is
    ∙ ap (λ l. c.args.words.now.items ++ l) (sym e)
    ∙ rw add-one
