use Rattle.std.proofs.Common.{◌≡◌, ◌++◌, drop}
use Rattle.run_plans.specs.Buffers.{bounds_in}
use Rattle.run_plans.proofs.buffers.bounds_of.Given as goal

abbrev pub invariant-loop-instruction : goal.invariant-loop-instruction
invariant-loop-instruction l =
    l.buffers.items ++ bounds_in l.declarations (drop l.instruction-index l.declarations) ≡ bounds_in l.declarations l.declarations
