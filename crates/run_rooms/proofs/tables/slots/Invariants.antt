use Rattle.std.proofs.Common.{◌+◌, slice_index}
use Rattle.run_rooms.specs.Layout.{IsTable, part_in}
use Rattle.run_rooms.proofs.tables.slots.Given as goal

abbrev pub invariant-loop-number : goal.invariant-loop-number
invariant-loop-number l = IsTable (λ k. (part_in l.parts (slice_index l.homes k)).frame + 2 + slice_index l.offsets k) l.number l.slots.items
