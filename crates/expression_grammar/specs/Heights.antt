-- How many nodes stand on the longest path of an expression.
use Rattle.std.specs.Prelude.{ℕ, ◌+◌, max, map}
use Rattle.slang_tree.specs.declared.expressions.ExprTree.{ExprTree, fold-ExprTree}
use Rattle.slang_tree.specs.declared.expressions.ExprNode.TheOpen.{ExprNode-F, ExprTree-F}
use Rattle.slang_tree.specs.declared.expressions.ExprNode.TheOpen as e
use Rattle.slang_grammar.specs.Heights.{greatest, argument_height}

abbrev pub expr_step : ExprNode-F ℕ ℕ → ℕ
expr_step (e.Number v) = 0
expr_step e.True = 0
expr_step e.False = 0
expr_step e.ThisValue = 0
expr_step e.ThisType = 0
expr_step (e.Name id args) = greatest (map argument_height args)
expr_step (e.Construct b args) = greatest args
expr_step (e.Paren x) = x
expr_step (e.Member x id args) = max x (greatest (map argument_height args))
expr_step (e.Index x i) = max x i
expr_step (e.Call x args) = max x (greatest args)
expr_step (e.Unary op x) = x
expr_step (e.Cast b x) = x
expr_step (e.Binary op x y) = max x y
expr_step (e.Choice x y z) = max x (max y z)

abbrev pub expr_tree_step : ExprTree-F ℕ ℕ → ℕ
expr_tree_step x = x.node + 1

abbrev pub expr_height : ExprTree → ℕ
expr_height = fold-ExprTree ℕ ℕ expr_step expr_tree_step
