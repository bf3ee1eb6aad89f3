use Rattle.std.proofs.Common.{◌≡◌, drop}
use Rattle.run_actions.specs.Ranges.{gather_at}
use Rattle.run_actions.proofs.ranges.gather.Given as goal

abbrev pub invariant-loop-part : goal.invariant-loop-part
invariant-loop-part l = gather_at (drop l.part-index l.parts) l.words ≡ gather_at l.parts l.fn.words
