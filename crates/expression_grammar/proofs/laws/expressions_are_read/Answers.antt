use Rattle.std.proofs.Common.{◌≡◌, ℕ, suc, subst, inl, inr}
use Rattle.slang_reading.proofs.Exact.{Post, reads_done, reads_not_stopped}
use Rattle.slang_grammar.specs.Expressions.{loosest, ExprAt}
use Rattle.slang_grammar.specs.ExpressionsDescent.{Value, expressions}
use Rattle.expression_grammar.specs.Heights.{expr_height}
use Rattle.expression_grammar.proofs.Spelled.{post_leveled}
use Rattle.expression_grammar.proofs.Tall.{tall_leveled}
use Rattle.expression_grammar.proofs.Read.{any_arguments, exact_arguments, reads_expr}
use Rattle.expression_grammar.proofs.Wrong.{expressions_go_on}
use Rattle.expression_grammar.proofs.One.{one_expression}
use Rattle.expression_grammar.proofs.laws.expressions_are_read.Goals as goal

pub returns-clause-spelled : goal.returns-clause-spelled
returns-clause-spelled c = λ ts limits d at seen to seen1 x e. subst (Post (λ (y : Value) (end : ℕ). ExprAt ts y.0 at end)) e (post_leveled ts limits d (suc loosest) at seen)

pub returns-clause-tall : goal.returns-clause-tall
returns-clause-tall c = λ ts limits d at seen to seen1 x e. subst (Post (λ (y : Value) (end : ℕ). expr_height y.0 ≡ y.1)) e (tall_leveled ts limits d (suc loosest) at seen)

pub returns-clause-not_stopped : goal.returns-clause-not_stopped
returns-clause-not_stopped c = λ ts limits d at seen to seen1 x s q e.
    reads_not_stopped (Unit {0}) (expressions limits d) ts at seen (x, expr_height x) to seen1 (reads_expr (Unit {0}) ts limits (any_arguments ts limits) s q d seen (inr tt)) e

pub returns-clause-goes_on : goal.returns-clause-goes_on
returns-clause-goes_on c = expressions_go_on

pub returns-clause-answered : goal.returns-clause-answered
returns-clause-answered c = λ ts limits d at seen to x s q f long nodes items.
    reads_done (expressions limits d) ts at seen (x, expr_height x) to (reads_expr ⊥ ts limits (exact_arguments ts limits long) s q d seen (inl (f, record { nodes = nodes; items = items })))

pub returns-clause-one_tree : goal.returns-clause-one_tree
returns-clause-one_tree c = one_expression
