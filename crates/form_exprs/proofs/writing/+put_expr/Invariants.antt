use Rattle.std.proofs.Common.{◌++◌, map}
use Rattle.form_grammar.specs.Trees.{nested, spelling, chain}
use Rattle.form_grammar.proofs.Chains.{Writes}
use Rattle.slang_core.specs.BodyTrees.{expr_tree, given_tree}
use Rattle.form_exprs.proofs.writing.+put_expr.Given as goal

abbrev pub invariant-put_expr_items-loop-item : goal.invariant-put_expr_items-loop-item
invariant-put_expr_items-loop-item l = Writes (λ x. nested (expr_tree x)) l.out.items l.items l.item-index (l.fn.out.items ++ spelling (chain (map (λ x. nested (expr_tree x)) l.items)))

abbrev pub invariant-put_given_items-loop-item : goal.invariant-put_given_items-loop-item
invariant-put_given_items-loop-item l = Writes given_tree l.out.items l.items l.item-index (l.fn.out.items ++ spelling (chain (map given_tree l.items)))
