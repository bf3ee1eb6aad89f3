use Rattle.std.proofs.Common.{arith}
use Rattle.run_buffers.specs.Invocations.{volume}
use Rattle.run_buffers.proofs.Places.{some_of, le_right, global_x, global_y, global_z}
use Rattle.run_buffers.proofs.invocations.ids_of.Goals as goal

pub small_volume-in_group-requires-clause-few : goal.small_volume-in_group-requires-clause-few
small_volume-in_group-requires-clause-few c =
    let some = some_of (volume c.args.groups) (volume c.args.size) c.args.n c.requires.there in
    let l = le_right (volume c.args.groups) (volume c.args.size) some.0 in
    let f = c.requires.few in
    omega arith

pub along-requires : goal.along-requires
along-requires c =
    let h = global_x c.args.groups c.args.size c.args.n c.requires.there in
    let f = c.requires.few in
    rw (c.place-group.ensures, c.place-local.ensures, c.small_volume-in_group.ensures) (omega arith)

pub along-requires-2 : goal.along-requires-2
along-requires-2 c =
    let h = global_y c.args.groups c.args.size c.args.n c.requires.there in
    let f = c.requires.few in
    rw (c.place-group.ensures, c.place-local.ensures, c.small_volume-in_group.ensures) (omega arith)

pub along-requires-3 : goal.along-requires-3
along-requires-3 c =
    let h = global_z c.args.groups c.args.size c.args.n c.requires.there in
    let f = c.requires.few in
    rw (c.place-group.ensures, c.place-local.ensures, c.small_volume-in_group.ensures) (omega arith)
