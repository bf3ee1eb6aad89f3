use Rattle.std.proofs.Common.{◌<◌, length, arith}
use Rattle.std.proofs.lemmas.Grind.{common_steps}
use Rattle.run_rooms.specs.Layout.{slot_words}
use Rattle.run_rooms.proofs.Growing.{words-more}
use Rattle.run_rooms.proofs.words.slot_table.Goals as goal

pub loop-instruction-preserved : goal.loop-instruction-preserved
loop-instruction-preserved c =
    let code = c.args.definitions.now in
    let k = c.loop-instruction.instruction-index in
    let items = c.code-instruction-items.result.now in
    let lt : k < length code = grind (arith, common_steps) in
    rw (c.in_ok-push.ensures.items)
    (words-more code items (slot_words code) k c.slot_words.result c.instruction-item.result c.loop-instruction.table.items
    c.code-instruction-items.ensures lt c.instruction-item.is c.slot_words.ensures c.loop-instruction.invariant)
