use Rattle.spirv_run.proofs.Bindings.{BoundBefore}
use Rattle.spirv_run.proofs.binding.bind.Given as goal

abbrev pub invariant-loop-n : goal.invariant-loop-n
invariant-loop-n l = BoundBefore l.n l.bounds l.buffers l.counts
