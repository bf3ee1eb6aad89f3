use Rattle.std.proofs.Common.{take}
use Rattle.call_layout.specs.Moves.{AreBegun}
use Rattle.call_layout.proofs.layout.begins.Given as goal

abbrev pub invariant-loop-function : goal.invariant-loop-function
invariant-loop-function l = AreBegun l.words l.edges (take l.function-index l.order) l.begins.items
