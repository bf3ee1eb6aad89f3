use Rattle.std.proofs.Common.{drop}
use Rattle.std.specs.HashSet.{contains}
use Rattle.repeated_names.specs.Views.{all_named}
use Rattle.repeated_names.proofs.Before.{key_eq, Decides}
use Rattle.repeated_names.proofs.repeats.first_twice.Given as goal

abbrev pub invariant-loop-named : goal.invariant-loop-named
invariant-loop-named l = Decides (contains key_eq l.before) (all_named (drop l.named-index l.names)) (all_named l.names)
