use Rattle.std.proofs.Common.{◌∙◌, length, List, None, Some, sym, ap, subst, arith}
use Rattle.spirv_words.specs.declared.images.Instruction.{Instruction}
use Rattle.image_places.specs.Places.{IsFirst, FaultAt, word_of}
use Rattle.image_types.specs.Checking.{has_wrong_types, IsFirstWrong}
use Rattle.image_types.proofs.Ends.{all-right}
use Rattle.image_types.proofs.faults.first_type_fault.Goals as goal

pub returns-in-Some : goal.returns-in-Some
returns-in-Some c =
    let code = c.args.image.now.instructions in
    let n = c.in-Some.number in
    let first = subst (λ o. IsFirstWrong (has_wrong_types c.as_slice-code.result.now) (length c.as_slice-code.result.now) o) c.in-Some.is c.in_ok-number.ensures in
    let found = subst (λ (is : List Instruction). IsFirstWrong (has_wrong_types is) (length is) (Some n)) c.as_slice-code.ensures first in
    let fault = c.the_first_wrong_instruction_is_the_first_fault.ensures.some code (has_wrong_types code) n (omega (arith, found.0)) found.1 found.2 in
    subst (λ place. IsFirst (FaultAt code (has_wrong_types code)) (Some place)) (sym (c.word_of.ensures ∙ ap (λ (is : List Instruction). word_of is n) c.as_slice-code.ensures)) fault

pub returns : goal.returns
returns c =
    let code = c.args.image.now.instructions in
    let first = subst (λ o. IsFirstWrong (has_wrong_types c.as_slice-code.result.now) (length c.as_slice-code.result.now) o) c.in-None.is c.in_ok-number.ensures in
    let found = subst (λ (is : List Instruction). IsFirstWrong (has_wrong_types is) (length is) None) c.as_slice-code.ensures first in
    c.the_first_wrong_instruction_is_the_first_fault.ensures.none code (has_wrong_types code) (all-right code found)
