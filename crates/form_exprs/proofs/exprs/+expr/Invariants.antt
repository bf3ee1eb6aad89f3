use Rattle.std.proofs.Common.{◌≡◌, ◌+◌, ◌-◌, ◌*◌, map}
use Rattle.form_grammar.specs.Trees.{nested}
use Rattle.form_grammar.specs.Grammar as form
use Rattle.form_grammar.specs.Reading.{form_at, nested_at, items_at}
use Rattle.form_grammar.proofs.Loops.{behind_these}
use Rattle.slang_core.specs.BodyTrees.{expr_tree, given_tree}
use Rattle.form_exprs.proofs.exprs.+expr.Given as goal

abbrev pub decreases-expr_of : goal.decreases-expr_of
decreases-expr_of l = 8 * l.level.depth

abbrev pub decreases-place_of : goal.decreases-place_of
decreases-place_of l = 8 * l.level.depth

abbrev pub decreases-expr_at : goal.decreases-expr_at
decreases-expr_at l = 8 * l.level.depth + 1

abbrev pub decreases-boxed_place : goal.decreases-boxed_place
decreases-boxed_place l = 8 * l.level.depth + 1

abbrev pub decreases-given_of : goal.decreases-given_of
decreases-given_of l = 8 * l.level.depth + 1

abbrev pub decreases-boxed_expr : goal.decreases-boxed_expr
decreases-boxed_expr l = 8 * l.level.depth + 2

abbrev pub decreases-expr_items : goal.decreases-expr_items
decreases-expr_items l = 8 * l.level.depth + 2

abbrev pub decreases-given_items : goal.decreases-given_items
decreases-given_items l = 8 * l.level.depth + 2

abbrev pub decreases-exprs_of : goal.decreases-exprs_of
decreases-exprs_of l = 8 * l.level.depth + 3

abbrev pub decreases-givens_of : goal.decreases-givens_of
decreases-givens_of l = 8 * l.level.depth + 3

abbrev pub decreases-pair_of : goal.decreases-pair_of
decreases-pair_of l = 8 * l.level.depth + 3

abbrev pub decreases-call_of : goal.decreases-call_of
decreases-call_of l = 8 * l.level.depth + 4

abbrev pub decreases-one_operand : goal.decreases-one_operand
decreases-one_operand l = 8 * l.level.depth + 4

abbrev pub decreases-two_operands : goal.decreases-two_operands
decreases-two_operands l = 8 * l.level.depth + 4

abbrev pub decreases-many_operands : goal.decreases-many_operands
decreases-many_operands l = 8 * l.level.depth + 4

abbrev pub decreases-expr_body : goal.decreases-expr_body
decreases-expr_body l = 8 * l.level.depth + 5

abbrev pub decreases-place_body : goal.decreases-place_body
decreases-place_body l = 8 * l.level.depth + 5

abbrev pub invariant-expr_items-loop : goal.invariant-expr_items-loop
invariant-expr_items-loop l =
    let item = form_at (nested_at l.level.depth) (form.part form.Expr) in
    behind_these (map (λ x. nested (expr_tree x)) l.items) (items_at item (l.count - l.counter) l.rest) ≡ items_at item l.count l.bytes

abbrev pub invariant-given_items-loop : goal.invariant-given_items-loop
invariant-given_items-loop l =
    let item = form_at (nested_at l.level.depth) form.given in
    behind_these (map given_tree l.items) (items_at item (l.count - l.counter) l.rest) ≡ items_at item l.count l.bytes
