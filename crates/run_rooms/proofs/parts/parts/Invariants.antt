use Rattle.std.proofs.Common.{◌≡◌, ℕ, ◌<◌, length, slice_index}
use Rattle.run_rooms.specs.Layout.{IsFilled, part_in, lead}
use Rattle.run_rooms.proofs.parts.parts.Given as goal

abbrev pub invariant-loop-function : goal.invariant-loop-function
invariant-loop-function l =
    (length l.parts.items ≡ l.function)
    × ((f : ℕ) → f < l.function → IsFilled (lead f) (slice_index l.room_sums f) (slice_index l.slot_sums f) (part_in l.parts.items f))
    × ((f : ℕ) → f < l.function → (part_in l.parts.items f).begin ≡ slice_index l.begins f)
