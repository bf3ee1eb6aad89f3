use Rattle.run_laws.proofs.Image.{machines_begin}
use Rattle.run_laws.proofs.laws.the_machines_begin_together.Goals as goal

pub returns : goal.returns
returns c = machines_begin
