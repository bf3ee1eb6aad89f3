-- How many nodes stand on the longest path of a tree.
use Rattle.std.specs.Prelude.{ℕ, ◌+◌, max, List, [], ◌∷◌}
use Rattle.slang_tree.specs.declared.types.TypeTree.{TypeTree, fold-TypeTree}
use Rattle.slang_tree.specs.declared.types.GenericArgument.{GenericArgument, fold-GenericArgument}
use Rattle.slang_tree.specs.declared.types.GenericArgument.TheOpen.{GenericArgument-F, TypeNode-F, TypeTree-F}
use Rattle.slang_tree.specs.declared.types.GenericArgument.TheOpen as t

abbrev pub greatest : List ℕ → ℕ
greatest [] = 0
greatest (x ∷ xs) = max x (greatest xs)

abbrev pub argument_step : GenericArgument-F ℕ ℕ ℕ → ℕ
argument_step (t.Term x) = x
argument_step (t.Number p v) = 0

abbrev pub type_step : TypeNode-F ℕ ℕ ℕ → ℕ
type_step (t.Builtin b) = 0
type_step t.ThisType = 0
type_step (t.Named id args) = greatest args
type_step (t.Resource r x) = x
type_step (t.Projection x id) = x
type_step (t.Array x l) = x

abbrev pub type_tree_step : TypeTree-F ℕ ℕ ℕ → ℕ
type_tree_step x = x.node + 1

abbrev pub height : TypeTree → ℕ
height = fold-TypeTree ℕ ℕ ℕ argument_step type_step type_tree_step

abbrev pub argument_height : GenericArgument → ℕ
argument_height = fold-GenericArgument ℕ ℕ ℕ argument_step type_step type_tree_step
