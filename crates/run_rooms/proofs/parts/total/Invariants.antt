use Rattle.std.proofs.Common.{ℕ, ◌<◌, ◌≤◌}
use Rattle.run_rooms.specs.Layout.{part_in}
use Rattle.run_rooms.proofs.parts.total.Given as goal

abbrev pub invariant-loop-part : goal.invariant-loop-part
invariant-loop-part l = (function : ℕ) → function < l.part-index → (part_in l.parts function).end ≤ l.total
