-- What was taken so far is the part of the bytes before `done`.
use Rattle.std.proofs.Common.{◌≡◌, ◌-◌, ◌≤◌, ◌++◌, List, ℕ, Some, length, take}
use Rattle.slang_store.proofs.sink.write_all.Given as goal

abbrev pub invariant-loop-done : goal.invariant-loop-done
invariant-loop-done g l = (l.done ≤ length l.bytes) × (g.S.Sink.faults l.initial.out ≤ g.S.Sink.faults l.out) × ((b : List ℕ) → g.S.Sink.taken l.initial.out ≡ Some b → g.S.Sink.taken l.out ≡ Some (b ++ take l.done l.bytes))

abbrev pub decreases-loop-done : goal.decreases-loop-done
decreases-loop-done g l = length l.bytes - l.done
