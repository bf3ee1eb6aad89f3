use Rattle.flat_values.proofs.Parts.{part_stands, composed}
use Rattle.flat_values.proofs.Replaced.{put_part_stands}
use Rattle.flat_values.proofs.laws.parts_stand_at_their_pieces.Goals as goal

pub returns : goal.returns
returns c = record { part = part_stands; put_part = put_part_stands; composed = composed }
