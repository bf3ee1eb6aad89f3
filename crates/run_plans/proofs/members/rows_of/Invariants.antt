use Rattle.run_plans.specs.Members.{AreRowsTo}
use Rattle.run_plans.proofs.members.rows_of.Given as goal

abbrev pub invariant-loop-instruction : goal.invariant-loop-instruction
invariant-loop-instruction l = AreRowsTo l.places.code l.instruction-index l.known
