use Rattle.std.proofs.Common.{rules}
use Rattle.image_lookup.specs.Lookups.{operands}
use Rattle.image_lookup.proofs.definitions.Definitions.operands.Goals as goal

pub returns-in-Some : goal.returns-in-Some
unfolding operands
returns-in-Some c = search rules

pub returns-in-None : goal.returns-in-None
unfolding operands
returns-in-None c = search rules
