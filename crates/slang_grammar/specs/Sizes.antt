-- How long the lists and the names of a type are, and what it is to keep the limits.
use Rattle.std.specs.Prelude.{ℕ, max, ◌≤◌, List, length, map}
use Rattle.slang_tree.specs.declared.types.Term.{Term}
use Rattle.slang_tree.specs.declared.types.Term.TheVariants as term
use Rattle.slang_tree.specs.declared.types.TypeTree.{TypeTree, fold-TypeTree}
use Rattle.slang_tree.specs.declared.types.GenericArgument.{GenericArgument, fold-GenericArgument}
use Rattle.slang_tree.specs.declared.types.GenericArgument.TheOpen.{GenericArgument-F, TypeNode-F, TypeTree-F}
use Rattle.slang_tree.specs.declared.types.GenericArgument.TheOpen as t
use Rattle.slang_grammar.specs.Heights.{greatest, height, argument_height}
use Rattle.slang_grammar.specs.Descent.{Limits}

-- ---- lists

abbrev pub argument_list_step : GenericArgument-F ℕ ℕ ℕ → ℕ
argument_list_step (t.Term x) = x
argument_list_step (t.Number p v) = 0

abbrev pub type_list_step : TypeNode-F ℕ ℕ ℕ → ℕ
type_list_step (t.Builtin b) = 0
type_list_step t.ThisType = 0
type_list_step (t.Named id args) = max (length args) (greatest args)
type_list_step (t.Resource r x) = x
type_list_step (t.Projection x id) = x
type_list_step (t.Array x l) = x

abbrev pub type_tree_list_step : TypeTree-F ℕ ℕ ℕ → ℕ
type_tree_list_step x = x.node

-- how many arguments stand in the longest list
abbrev pub longest_list : TypeTree → ℕ
longest_list = fold-TypeTree ℕ ℕ ℕ argument_list_step type_list_step type_tree_list_step

abbrev pub argument_list : GenericArgument → ℕ
argument_list = fold-GenericArgument ℕ ℕ ℕ argument_list_step type_list_step type_tree_list_step

-- ---- names

abbrev pub term_name : Term → ℕ
term_name (term.Number p v) = 0
term_name (term.Name id) = length id.name

abbrev pub argument_name_step : GenericArgument-F ℕ ℕ ℕ → ℕ
argument_name_step (t.Term x) = x
argument_name_step (t.Number p v) = 0

abbrev pub type_name_step : TypeNode-F ℕ ℕ ℕ → ℕ
type_name_step (t.Builtin b) = 0
type_name_step t.ThisType = 0
type_name_step (t.Named id args) = max (length id.name) (greatest args)
type_name_step (t.Resource r x) = x
type_name_step (t.Projection x id) = max x (length id.name)
type_name_step (t.Array x l) = max x (term_name l)

abbrev pub type_tree_name_step : TypeTree-F ℕ ℕ ℕ → ℕ
type_tree_name_step x = x.node

-- how many bytes the longest name has
abbrev pub longest_name : TypeTree → ℕ
longest_name = fold-TypeTree ℕ ℕ ℕ argument_name_step type_name_step type_tree_name_step

abbrev pub argument_name : GenericArgument → ℕ
argument_name = fold-GenericArgument ℕ ℕ ℕ argument_name_step type_name_step type_tree_name_step

-- ---- limits

-- at most so many nodes stand on a path, and no list and no name is longer than the limit
pub record TypeFits (limits : Limits) (d : ℕ) (x : TypeTree) : Type 0 where
  pub nodes : height x ≤ d
  pub lists : longest_list x ≤ limits.items
  pub names : longest_name x ≤ limits.names

-- the same of each argument of a list, and of the list
pub record ArgumentsFit (limits : Limits) (d : ℕ) (args : List GenericArgument) : Type 0 where
  pub nodes : greatest (map argument_height args) ≤ d
  pub items : length args ≤ limits.items
  pub lists : greatest (map argument_list args) ≤ limits.items
  pub names : greatest (map argument_name args) ≤ limits.names
