use Rattle.std.proofs.Common.{◌≡◌, ◌++◌, map, take}
use Rattle.repeated_names.specs.Twice.{named}
use Rattle.repeated_names.specs.Views.{group_of, all_named}
use Rattle.repeated_names.proofs.names.put_fields.Given as goal

abbrev pub invariant-loop-name : goal.invariant-loop-name
invariant-loop-name l = all_named l.list.items ≡ all_named l.initial.list.items ++ map (λ n. named (group_of l.group) n.name) (take l.name-index l.names)
