use Rattle.run_buffers.proofs.Answered.{answered_text, answered_refusal}
use Rattle.run_buffers.proofs.buffers.Buffers.read.Goals as goal

pub returns-clause-if_text : goal.returns-clause-if_text
returns-clause-if_text c = answered_text c.args.bytes.now c.read_within.result c.read_within.ensures.text c.read_within.ensures.refused

pub returns-clause-if_refused : goal.returns-clause-if_refused
returns-clause-if_refused c = answered_refusal c.args.bytes.now c.read_within.result c.read_within.ensures.text c.read_within.ensures.refused
