use Rattle.action_laws.proofs.InBuffers.{leads_in_buffer}
use Rattle.action_laws.proofs.laws.buffer_chains_lead_to_bytes.Goals as goal

pub returns : goal.returns
returns c = leads_in_buffer
