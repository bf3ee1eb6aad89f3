-- How long the lists and the names of an expression are, and what it is to keep the limits.
use Rattle.std.specs.Prelude.{ℕ, max, ◌≤◌, List, length, map}
use Rattle.slang_tree.specs.declared.expressions.ExprTree.{ExprTree, fold-ExprTree}
use Rattle.slang_tree.specs.declared.expressions.ExprNode.TheOpen.{ExprNode-F, ExprTree-F}
use Rattle.slang_tree.specs.declared.expressions.ExprNode.TheOpen as e
use Rattle.slang_grammar.specs.Heights.{greatest}
use Rattle.slang_grammar.specs.Descent.{Limits}
use Rattle.slang_grammar.specs.Sizes.{argument_list, argument_name}
use Rattle.expression_grammar.specs.Heights.{expr_height}

-- ---- lists

abbrev pub expr_list_step : ExprNode-F ℕ ℕ → ℕ
expr_list_step (e.Number v) = 0
expr_list_step e.True = 0
expr_list_step e.False = 0
expr_list_step e.ThisValue = 0
expr_list_step e.ThisType = 0
expr_list_step (e.Name id args) = max (length args) (greatest (map argument_list args))
expr_list_step (e.Construct b args) = max (length args) (greatest args)
expr_list_step (e.Paren x) = x
expr_list_step (e.Member x id args) = max x (max (length args) (greatest (map argument_list args)))
expr_list_step (e.Index x i) = max x i
expr_list_step (e.Call x args) = max x (max (length args) (greatest args))
expr_list_step (e.Unary op x) = x
expr_list_step (e.Cast b x) = x
expr_list_step (e.Binary op x y) = max x y
expr_list_step (e.Choice x y z) = max x (max y z)

abbrev pub expr_tree_list_step : ExprTree-F ℕ ℕ → ℕ
expr_tree_list_step x = x.node

-- how many arguments stand in the longest list
abbrev pub expr_list : ExprTree → ℕ
expr_list = fold-ExprTree ℕ ℕ expr_list_step expr_tree_list_step

-- ---- names

abbrev pub expr_name_step : ExprNode-F ℕ ℕ → ℕ
expr_name_step (e.Number v) = 0
expr_name_step e.True = 0
expr_name_step e.False = 0
expr_name_step e.ThisValue = 0
expr_name_step e.ThisType = 0
expr_name_step (e.Name id args) = max (length id.name) (greatest (map argument_name args))
expr_name_step (e.Construct b args) = greatest args
expr_name_step (e.Paren x) = x
expr_name_step (e.Member x id args) = max x (max (length id.name) (greatest (map argument_name args)))
expr_name_step (e.Index x i) = max x i
expr_name_step (e.Call x args) = max x (greatest args)
expr_name_step (e.Unary op x) = x
expr_name_step (e.Cast b x) = x
expr_name_step (e.Binary op x y) = max x y
expr_name_step (e.Choice x y z) = max x (max y z)

abbrev pub expr_tree_name_step : ExprTree-F ℕ ℕ → ℕ
expr_tree_name_step x = x.node

-- how many bytes the longest name has
abbrev pub expr_name : ExprTree → ℕ
expr_name = fold-ExprTree ℕ ℕ expr_name_step expr_tree_name_step

-- ---- limits

-- at most so many nodes stand on a path, and no list and no name is longer than the limit
pub record Fits (limits : Limits) (d : ℕ) (x : ExprTree) : Type 0 where
  pub nodes : expr_height x ≤ d
  pub lists : expr_list x ≤ limits.items
  pub names : expr_name x ≤ limits.names

-- the same of each value of a list, and of the list
pub record ListFits (limits : Limits) (d : ℕ) (xs : List ExprTree) : Type 0 where
  pub nodes : greatest (map expr_height xs) ≤ d
  pub items : length xs ≤ limits.items
  pub lists : greatest (map expr_list xs) ≤ limits.items
  pub names : greatest (map expr_name xs) ≤ limits.names
