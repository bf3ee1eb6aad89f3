use Rattle.std.proofs.Common.{◌≡◌, map, drop}
use Rattle.slang_tree.specs.Nesting.{deep_argument, first_of}
use Rattle.slang_tree.proofs.nesting.+types_in.Given as goal

abbrev pub invariant-in_arguments-loop-item : goal.invariant-in_arguments-loop-item
invariant-in_arguments-loop-item l = first_of (map deep_argument l.list) l.around ≡ first_of (map deep_argument (drop l.item-index l.list)) l.around
