use Rattle.std.proofs.Common.{◌+◌, ◌*◌, slice_index, arith}
use Rattle.run_buffers.proofs.Places.{le_right}
use Rattle.run_buffers.proofs.invocations.number_of.Goals as goal

pub overflow_mul-result : goal.overflow_mul-result
overflow_mul-result c =
    let size = c.args.size in
    let place = c.args.place in
    let l = le_right (slice_index size 0) (slice_index place 1 + slice_index size 1 * slice_index place 2) c.requires.some in
    let f = c.requires.few in
    omega arith

pub overflow_add-result : goal.overflow_add-result
overflow_add-result c =
    let size = c.args.size in
    let place = c.args.place in
    let l = le_right (slice_index size 0) (slice_index place 1 + slice_index size 1 * slice_index place 2) c.requires.some in
    let f = c.requires.few in
    omega arith
