use Rattle.std.proofs.Common.{◌≤◌, ◌-◌}
use Rattle.spirv_run.specs.Going.{IsUnderWay}
use Rattle.spirv_run.proofs.dispatching.run_one.Given as goal

abbrev pub invariant-loop-step : goal.invariant-loop-step
invariant-loop-step l = (l.step ≤ l.steps) × IsUnderWay l.fn.runner.image l.ids l.fn.buffers l.step l.runner l.buffers

abbrev pub decreases-loop-step : goal.decreases-loop-step
decreases-loop-step l = l.steps - l.step
