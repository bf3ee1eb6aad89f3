use Rattle.std.proofs.Common.{◌≡◌, ℕ, List, true, ◌+◌, ◌≤◌, ◌<◌, ◌^◌, arith, sym, ap, ◌∙◌, subst}
use Rattle.spirv_words.specs.declared.images.Instruction.{Instruction}
use Rattle.image_lookup.specs.Lookups.{operand}
use Rattle.image_facts.specs.Operands.{type_id}
use Rattle.image_operands.specs.Composites.{extract_end}
use Rattle.run_actions.specs.declared.actions.Action.TheVariants.{Copy}
use Rattle.run_rooms.specs.Rooms.{Slot}
use Rattle.run_plans.specs.Ground.{rooms_of}
use Rattle.run_plans.specs.Walks.{IsPath, IsThere, width_at}
use Rattle.run_plans.proofs.Facts.{data_shape}
use Rattle.run_plans.proofs.Taken.{extract_is}
use Rattle.run_plans.proofs.Rooms.{slot_fits, data_width}
use Rattle.run_plans.proofs.composites.extract_of.Goals as goal

pub part_behind-part-requires-clause-leads : goal.part_behind-part-requires-clause-leads
part_behind-part-requires-clause-leads c =
    let code = c.args.places.now.places.code in
    let whole : c.operand.result ≡ operand code c.args.composite 0 =
    c.operand.ensures ∙ ap (λ (is : List Instruction). operand is c.args.composite 0) c.declarations.ensures in
    record { it = c.args.type_id; is = ap (λ t. extract_end code t c.args.path.now) whole ∙ c.requires.leads }

pub overflow_add-result : goal.overflow_add-result
overflow_add-result c =
    let g = c.args.places.now in
    let code = g.places.code in
    let x = c.args.composite in
    let whole : c.operand.result ≡ operand code x 0 =
    c.operand.ensures ∙ ap (λ (is : List Instruction). operand is x 0) c.declarations.ensures in
    let room = slot_fits code c.requires.ground.valid (rooms_of g) c.requires.ground.rooms x c.requires.value in
    let size = data_width code c.requires.ground.valid (type_id code x) c.requires.whole in
    let inside = subst (λ (t : ℕ). c.part_behind-part.result.place + width_at code c.part_behind-part.result.type_id ≤ width_at code t) whole
    c.part_behind-part.ensures.inside in
    record { fits = below _ _ _ _ _ _ c.slot.ensures inside size room }
  where
    below : (s p w a n slot : ℕ) → s ≡ slot → p + w ≤ a → n ≡ a → slot + n < 2 ^ 32 → s + p < 2 ^ 32
    below s p w a n slot e i f r = omega arith

pub returns : goal.returns
returns c =
    let code = c.args.places.now.places.code in
    let L = rooms_of c.args.places.now in
    let x = c.args.composite in
    let whole : c.operand.result ≡ type_id code x =
    c.operand.ensures ∙ ap (λ (is : List Instruction). operand is x 0) c.declarations.ensures in
    let shape = data_shape code c.requires.ground.valid (type_id code x) c.requires.whole in
    let part = c.part_behind-part.result in
    ap (λ n. Copy (record { from = c.slot.result + part.place; to = n; count = c.size_of.result })) c.slot-2.ensures
    ∙ ap (λ n. Copy (record { from = c.slot.result + part.place; to = L.slot c.args.to; count = n })) c.size_of.ensures
    ∙ extract_is code L c.args.type_id c.args.to x part.type_id part.place (c.slot.result + part.place) c.args.path.now
    (shape.form, shape.is)
    (subst (λ (t : ℕ). IsPath code t c.args.path.now part.type_id part.place) whole c.part_behind-part.ensures.part)
    (ap (λ n. n + part.place) c.slot.ensures)
