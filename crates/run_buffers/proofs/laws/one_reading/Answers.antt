use Rattle.run_buffers.proofs.Whole.{one_reading}
use Rattle.run_buffers.proofs.laws.one_reading.Goals as goal

pub returns-clause-once : goal.returns-clause-once
returns-clause-once c = one_reading
