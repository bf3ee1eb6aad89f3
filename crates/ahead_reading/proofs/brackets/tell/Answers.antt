use Rattle.ahead_reading.proofs.Growth.{grows_not}
use Rattle.ahead_reading.proofs.brackets.tell.Goals as goal

pub returns-in-One-clause-grows : goal.returns-in-One-clause-grows
returns-in-One-clause-grows c = grows_not c.args.scans.now
