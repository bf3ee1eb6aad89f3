use Rattle.std.proofs.Common.{◌<◌, ◌+◌, ◌∷◌, drop, length, cond, refl, sym, ap, ◌∙◌}
use Rattle.std.proofs.lemmas.Grind.{common_steps}
use Rattle.std.proofs.Common.{arith}
use Rattle.std.proofs.lemmas.List.{at_drop_more}
use Rattle.spirv_words.specs.declared.images.Instruction.{Instruction}
use Rattle.spirv_words.specs.Machine.{meaning_of, result_of, add, declared}
use Rattle.spirv_words.specs.Runs.{undeclared}
use Rattle.run_rooms.proofs.widths.Widths.new.Goals as goal

pub loop-instruction-init : goal.loop-instruction-init
loop-instruction-init c = (undeclared, refl, record { types = λ t. grind (arith, common_steps); numbers = λ x. grind (arith, common_steps) })

pub loop-instruction-preserved : goal.loop-instruction-preserved
loop-instruction-preserved c =
    let code = c.args.code.now in
    let i = c.instruction-item.result in
    let k = c.loop-instruction.instruction-index in
    let v = c.loop-instruction.invariant in
    let g = add (result_of i.op i.operands) (meaning_of code v.0 i.op i.operands) v.0 in
    let lt : k < length code = grind (arith, common_steps) in
    let step = at_drop_more (λ is. declared code is v.0) code k i lt
    ∙ ap (λ (x : Instruction). declared code (x ∷ drop (k + 1) code) v.0) (sym c.instruction-item.is)
    ∙ ap (λ b. cond b v.0 (declared code (drop (k + 1) code) g)) (sym c.is_function.ensures ∙ c.if-is_function.false) in
    (g, sym step ∙ v.1, c.in_ok-add.ensures code v.0 v.2)
