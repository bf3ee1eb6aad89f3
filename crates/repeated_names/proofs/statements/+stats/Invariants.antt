use Rattle.std.proofs.Common.{◌≡◌, ◌++◌, map, take}
use Rattle.repeated_names.specs.Twice.{in_group, stat_names}
use Rattle.repeated_names.specs.Views.{group_of, all_named}
use Rattle.repeated_names.proofs.statements.+stats.Given as goal

abbrev pub invariant-put_stats-loop-statement : goal.invariant-put_stats-loop-statement
invariant-put_stats-loop-statement l = all_named l.list.items ≡ all_named l.initial.list.items ++ in_group (map stat_names (take l.statement-index l.statements)) (group_of l.group)
