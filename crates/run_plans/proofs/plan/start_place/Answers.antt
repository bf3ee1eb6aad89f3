use Rattle.std.proofs.Common.{◌≡◌, ◌+◌, ◌<◌, ◌^◌, ℕ, List, length, Some, sym, ap, ◌∙◌, subst, arith}
use Rattle.spirv_words.specs.declared.images.Instruction.{Instruction}
use Rattle.spirv_words.specs.Machine.{place_of}
use Rattle.run_rooms.proofs.Defined.{place-within}
use Rattle.run_plans.proofs.plan.start_place.Goals as goal

pub overflow_add-result : goal.overflow_add-result
overflow_add-result c =
    let code = c.args.declarations.now in
    let l : c.in-Some-place.place < length code =
    place-within code c.match-entry_of.entry c.in-Some-place.place
    (ap (λ (is : List Instruction). place_of is c.match-entry_of.entry 0) (sym c.definitions.ensures) ∙ sym c.in-Some-place.ensures) in
    let few = c.requires.few in
    record { fits = omega arith }
