use Rattle.std.proofs.Common.{◌≡◌, ◌<◌, suc, length, slice_index, refl, ◌∙◌, arith}
use Rattle.std.proofs.lemmas.Grind.{get_or_default_zero}
use Rattle.run_rooms.specs.Sums.{before}
use Rattle.run_rooms.proofs.Sums.{before-behind}
use Rattle.run_rooms.proofs.offsets.offsets_of.Goals as goal

pub returns-in-None-clause-too_large : goal.returns-in-None-clause-too_large
returns-in-None-clause-too_large c = λ e.
    let homes = c.args.homes.now in
    let words = c.args.words.now in
    let sums = c.loop-number.sums.items in
    let k = c.loop-number.number in
    let home = slice_index homes k in
    let table = c.loop-number.invariant.1 in
    let lt : home < suc (length homes) = omega (arith, c.requires.known k c.loop-number-test.true) in
    let old : c.index-in-loop-number.result.now ≡ before (slice_index homes) (slice_index words) home k =
    c.index-in-loop-number.ensures ∙ get_or_default_zero sums home c.index-in-loop-number.result.now (omega (arith, lt, table.as_many)) ∙ table.tells home lt in
    let b = before-behind (slice_index homes) (slice_index words) home k (length homes) refl c.loop-number-test.true in
    record { function = home; within = lt; far = omega (arith, old, b, c.in-None.ensures) }
