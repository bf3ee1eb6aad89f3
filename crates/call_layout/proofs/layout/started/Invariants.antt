use Rattle.call_layout.specs.Moves.{AreStarted}
use Rattle.call_layout.proofs.layout.started.Given as goal

abbrev pub invariant-loop-function : goal.invariant-loop-function
invariant-loop-function l = AreStarted l.words l.function l.begins.items
