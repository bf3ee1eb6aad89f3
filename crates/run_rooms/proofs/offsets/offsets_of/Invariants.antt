use Rattle.std.proofs.Common.{suc, slice_index, length}
use Rattle.run_rooms.specs.Sums.{before}
use Rattle.run_rooms.specs.Layout.{IsTable}
use Rattle.run_rooms.proofs.offsets.offsets_of.Given as goal

abbrev pub invariant-loop-number : goal.invariant-loop-number
invariant-loop-number l =
    IsTable (λ k. before (slice_index l.homes) (slice_index l.words) (slice_index l.homes k) k) l.number l.offsets.items
    × IsTable (λ f. before (slice_index l.homes) (slice_index l.words) f l.number) (suc (length l.homes)) l.sums.items
