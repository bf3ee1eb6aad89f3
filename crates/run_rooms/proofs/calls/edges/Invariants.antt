use Rattle.run_rooms.specs.Calls.{AreCalls}
use Rattle.run_rooms.proofs.calls.edges.Given as goal

abbrev pub invariant-loop-number : goal.invariant-loop-number
invariant-loop-number l = AreCalls l.definitions l.number l.edges.items
