use Rattle.std.proofs.Common.{◌≡◌, ◌++◌, map, take}
use Rattle.repeated_names.specs.Twice.{parameter_name}
use Rattle.repeated_names.specs.Views.{group_of, all_named}
use Rattle.repeated_names.proofs.names.put_parameters.Given as goal

abbrev pub invariant-loop-parameter : goal.invariant-loop-parameter
invariant-loop-parameter l = all_named l.list.items ≡ all_named l.initial.list.items ++ map (parameter_name (group_of l.group)) (take l.parameter-index l.parameters)
