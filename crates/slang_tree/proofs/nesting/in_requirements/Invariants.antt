use Rattle.std.proofs.Common.{◌≡◌, map, drop}
use Rattle.slang_tree.specs.Nesting.{deep_requirement, first_of}
use Rattle.slang_tree.proofs.nesting.in_requirements.Given as goal

abbrev pub invariant-loop-item : goal.invariant-loop-item
invariant-loop-item l = first_of (map deep_requirement l.list) l.around ≡ first_of (map deep_requirement (drop l.item-index l.list)) l.around
