use Rattle.std.proofs.Common.{◌≡◌, ◌≤◌, ◌*◌}
use Rattle.spirv_run.specs.Dispatch.{AreDone}
use Rattle.spirv_run.specs.Going.{IsReady}
use Rattle.spirv_run.proofs.dispatching.run_all.Given as goal

abbrev pub invariant-loop-n : goal.invariant-loop-n
invariant-loop-n l =
    (l.runner.image ≡ l.fn.runner.image) × IsReady l.runner l.buffers × AreDone l.fn.runner.image l.size l.groups l.steps l.n l.fn.buffers l.buffers l.total × (l.total ≤ l.n * 100000000)
