use Rattle.action_laws.proofs.Follows.{leads, led_shape}
use Rattle.action_laws.proofs.laws.chains_lead_to_pieces.Goals as goal

pub returns : goal.returns
returns c = record { place = leads; shape = led_shape }
