use Rattle.std.proofs.Common.{◌≡◌, map, drop}
use Rattle.slang_tree.specs.Nesting.{deep_stat, first_of}
use Rattle.slang_tree.proofs.nesting.+statements_in.Given as goal

abbrev pub invariant-in_stats-loop-item : goal.invariant-in_stats-loop-item
invariant-in_stats-loop-item l = first_of (map deep_stat l.list) l.around ≡ first_of (map deep_stat (drop l.item-index l.list)) l.around
