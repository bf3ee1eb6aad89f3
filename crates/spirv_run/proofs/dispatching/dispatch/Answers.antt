use Rattle.spirv_run.specs.Machines.{image_of}
use Rattle.spirv_run.proofs.OneDispatch.{one_dispatch}
use Rattle.spirv_run.proofs.dispatching.dispatch.Goals as goal

pub returns-clause-only : goal.returns-clause-only
returns-clause-only c = λ answer last is.
    one_dispatch (image_of c.args.runner.now) c.args.entry.now c.args.groups c.args.steps c.args.buffers.now c.dispatched.new.buffers last c.dispatched.result answer c.dispatched.ensures.is is
