use Rattle.image_calls.proofs.Graphs.{nowhere-back}
use Rattle.image_calls.proofs.laws.calls_lead_nowhere_back.Goals as goal

pub returns : goal.returns
returns c = nowhere-back
