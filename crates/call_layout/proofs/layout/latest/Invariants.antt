use Rattle.std.proofs.Common.{take}
use Rattle.call_layout.specs.Moves.{IsLatest}
use Rattle.call_layout.proofs.layout.latest.Given as goal

abbrev pub invariant-loop-caller : goal.invariant-loop-caller
invariant-loop-caller l = IsLatest l.words l.begins (take l.caller-index l.callers) l.place l.latest
