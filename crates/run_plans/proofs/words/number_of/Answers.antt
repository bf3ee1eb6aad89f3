use Rattle.std.proofs.Common.{◌≡◌, ◌<◌, ℕ, List, Some, length, slice_get, sym, ap, ◌∙◌, subst, arith}
use Rattle.spirv_words.specs.declared.images.Instruction.{Instruction}
use Rattle.spirv_words.specs.Machine.{or_zero, decoration}
use Rattle.run_plans.specs.declared.base.Bound.{Bound}
use Rattle.run_plans.specs.Buffers.{bound_of, Ascends}
use Rattle.run_plans.specs.Plans.{set_of, binding_of}
use Rattle.run_plans.proofs.Ordered.{at_variable, numbered, number_is_few}
use Rattle.run_plans.proofs.words.number_of.Goals as goal

pub place_among-requires : goal.place_among-requires
place_among-requires c =
    record { ascending = subst Ascends (sym c.as_slice.ensures) c.requires.bounds.ascending }

place_is : (c : goal.After-place_among) → c.place_among.result ≡ (at_variable c.args.base.now.places.code c.args.base.now.buffers c.requires.bounds c.args.id c.requires.buffer).0
place_is c =
    let code = c.args.base.now.places.code in
    let x = c.args.id in
    let at = at_variable code c.args.base.now.buffers c.requires.bounds x c.requires.buffer in
    c.place_among.ensures at.0 (bound_of code x)
    (ap (λ (bs : List Bound). slice_get bs at.0) c.as_slice.ensures ∙ at.1)
    (sym (c.literal_of-set.ensures ∙ ap (λ (is : List Instruction). or_zero (decoration is x 34)) c.declarations-declarations.ensures))
    (sym (c.literal_of-binding.ensures ∙ ap (λ (is : List Instruction). or_zero (decoration is x 33)) c.declarations-declarations.ensures))

pub word_of-requires : goal.word_of-requires
word_of-requires c =
    let few = number_is_few c.args.base.now.places.code c.args.base.now.buffers c.requires.bounds c.args.id c.requires.buffer in
    let most = c.requires.ground.few in
    omega (arith, place_is c)

pub returns : goal.returns
returns c =
    c.word_of.ensures ∙ place_is c.before ∙ sym (numbered c.args.base.now.places.code c.args.base.now.buffers c.requires.bounds c.args.id c.requires.buffer)
