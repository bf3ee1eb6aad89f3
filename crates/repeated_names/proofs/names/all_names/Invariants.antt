use Rattle.std.proofs.Common.{◌≡◌, take}
use Rattle.declared_names.specs.Views.{declarations_of}
use Rattle.repeated_names.specs.Twice.{all_names}
use Rattle.repeated_names.specs.Views.{all_named}
use Rattle.repeated_names.proofs.names.all_names.Given as goal

abbrev pub invariant-loop-declaration : goal.invariant-loop-declaration
invariant-loop-declaration l = all_named l.list.items ≡ all_names (declarations_of (take l.declaration-index l.declarations))
