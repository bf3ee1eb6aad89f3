use Rattle.std.proofs.Common.{◌≡◌, map, drop}
use Rattle.slang_tree.specs.Nesting.{deep_local_name, first_of}
use Rattle.slang_tree.proofs.nesting.in_local_names.Given as goal

abbrev pub invariant-loop-item : goal.invariant-loop-item
invariant-loop-item l = first_of (map deep_local_name l.list) l.around ≡ first_of (map deep_local_name (drop l.item-index l.list)) l.around
