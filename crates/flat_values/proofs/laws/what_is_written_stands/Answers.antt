use Rattle.flat_values.proofs.Standing.{length-written, written_there, written_apart}
use Rattle.flat_values.proofs.laws.what_is_written_stands.Goals as goal

pub returns : goal.returns
returns c = record { count = length-written; there = written_there; apart = written_apart }
