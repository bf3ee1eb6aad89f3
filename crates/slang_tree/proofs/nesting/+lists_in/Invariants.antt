use Rattle.std.proofs.Common.{◌≡◌, map, drop}
use Rattle.slang_tree.specs.Nesting.{deep_initializer, first_of}
use Rattle.slang_tree.proofs.nesting.+lists_in.Given as goal

abbrev pub invariant-in_initializers-loop-item : goal.invariant-in_initializers-loop-item
invariant-in_initializers-loop-item l = first_of (map deep_initializer l.list) l.around ≡ first_of (map deep_initializer (drop l.item-index l.list)) l.around
