use Rattle.std.proofs.Common.{◌≡◌, slice_index_or, arith}
use Rattle.run_rooms.specs.Rooms.{slot_size}
use Rattle.run_plans.proofs.Sized.{sizes_from}
use Rattle.run_plans.proofs.composites.gathered.Goals as goal

pub overflow_add-at : goal.overflow_add-at
overflow_add-at c =
    let code = c.args.places.now.places.code in
    let xs = c.args.values.now in
    let k = c.loop-value.value-index in
    let next = sizes_from code xs k c.loop-value-test.true in
    let all = c.loop-value.invariant.1 in
    let inside = c.requires.inside in
    let count : c.move_of-part.result.count ≡ slot_size code (slice_index_or xs k 0) = grind arith in
    omega (arith, next, all, inside, count)
