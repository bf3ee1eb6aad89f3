use Rattle.std.proofs.Common.{◌≡◌, map, drop}
use Rattle.slang_tree.specs.Nesting.{deep_parameter, first_of}
use Rattle.slang_tree.proofs.nesting.in_parameters.Given as goal

abbrev pub invariant-loop-item : goal.invariant-loop-item
invariant-loop-item l = first_of (map deep_parameter l.list) l.around ≡ first_of (map deep_parameter (drop l.item-index l.list)) l.around
