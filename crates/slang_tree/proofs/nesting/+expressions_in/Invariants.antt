use Rattle.std.proofs.Common.{◌≡◌, map, drop}
use Rattle.slang_tree.specs.Nesting.{deep_expr, first_of}
use Rattle.slang_tree.proofs.nesting.+expressions_in.Given as goal

abbrev pub invariant-in_exprs-loop-item : goal.invariant-in_exprs-loop-item
invariant-in_exprs-loop-item l = first_of (map deep_expr l.list) l.around ≡ first_of (map deep_expr (drop l.item-index l.list)) l.around
