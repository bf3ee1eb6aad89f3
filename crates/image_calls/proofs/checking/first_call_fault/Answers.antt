use Rattle.std.proofs.Common.{◌∙◌, List, length, Some, None, ap, subst}
use Rattle.spirv_words.specs.declared.images.Instruction.{Instruction}
use Rattle.image_places.specs.Places.{word_of}
use Rattle.image_calls.specs.Calls.{IsFirstBad, HasWrongCall}
use Rattle.image_calls.proofs.Firsts.{first-place, no-place}
use Rattle.image_calls.proofs.checking.first_call_fault.Goals as goal

pub returns-in-Some : goal.returns-in-Some
returns-in-Some c =
    let n = c.in-Some.number in
    let first = subst (λ o. IsFirstBad (HasWrongCall c.as_slice-code.result.now) (length c.as_slice-code.result.now) o) c.in-Some.is c.in_ok-number.ensures in
    let found = subst (λ (is : List Instruction). IsFirstBad (HasWrongCall is) (length is) (Some n)) c.as_slice-code.ensures first in
    let at = c.word_of.ensures ∙ ap (λ (is : List Instruction). word_of is n) c.as_slice-code.ensures in
    first-place c.args.image.now.instructions n c.word_of.result found at (c.places_grow.ensures.grow c.args.image.now.instructions)

pub returns : goal.returns
returns c =
    let first = subst (λ o. IsFirstBad (HasWrongCall c.as_slice-code.result.now) (length c.as_slice-code.result.now) o) c.in-None.is c.in_ok-number.ensures in
    let found = subst (λ (is : List Instruction). IsFirstBad (HasWrongCall is) (length is) None) c.as_slice-code.ensures first in
    no-place c.args.image.now.instructions found
