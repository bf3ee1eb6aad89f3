use Rattle.run_rooms.proofs.Narrow.{NoneWide}
use Rattle.run_rooms.proofs.widths.are_narrow.Given as goal

abbrev pub invariant-loop-instruction : goal.invariant-loop-instruction
invariant-loop-instruction l = NoneWide l.code l.instruction-index
