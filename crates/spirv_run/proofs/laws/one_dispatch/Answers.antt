use Rattle.spirv_run.proofs.OneDispatch.{one_dispatch}
use Rattle.spirv_run.proofs.laws.one_dispatch.Goals as goal

pub returns : goal.returns
returns c = one_dispatch
