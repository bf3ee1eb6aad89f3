use Rattle.std.proofs.Common.{rules}
use Rattle.image_lookup.specs.Lookups.{sort}
use Rattle.image_lookup.proofs.definitions.Definitions.sort.Goals as goal

pub returns-in-Some : goal.returns-in-Some
unfolding sort
returns-in-Some c = search rules

pub returns-in-None : goal.returns-in-None
unfolding sort
returns-in-None c = search rules
