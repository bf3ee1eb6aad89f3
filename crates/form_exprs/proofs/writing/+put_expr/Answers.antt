use Rattle.std.proofs.Common.{arith, rules, append_assoc}
use Rattle.form_grammar.specs.Trees.{nested}
use Rattle.form_grammar.proofs.Chains.{wrote, all_written, to_write}
use Rattle.slang_core.specs.BodyTrees.{expr_tree, given_tree}
use Rattle.slang_core.specs.declared.bodies.Expr.{the_lemmas}
use Rattle.form_exprs.proofs.Lists.{vector_tree, array_tree, direct_tree}
use Rattle.form_exprs.proofs.writing.+put_expr.Goals as goal

pub put_expr_items-loop-item-init : goal.put_expr_items-loop-item-init
put_expr_items-loop-item-init t c = to_write (λ x. nested (expr_tree x)) c.args.out.now.items c.args.items.now

pub put_expr_items-loop-item-preserved : goal.put_expr_items-loop-item-preserved
put_expr_items-loop-item-preserved t c = wrote (λ x. nested (expr_tree x)) c.loop-item.out.items c.put_expr.new.out.items c.args.items.now c.loop-item.item-index _ c.item-item.result (omega arith) c.item-item.is c.in_ok-put_expr.ensures c.loop-item.invariant

pub put_expr_items-returns : goal.put_expr_items-returns
put_expr_items-returns t c = all_written (λ x. nested (expr_tree x)) c.loop-item.out.items c.args.items.now c.loop-item.item-index _ c.loop-item-test.false c.loop-item.invariant

pub put_given_items-loop-item-init : goal.put_given_items-loop-item-init
put_given_items-loop-item-init t c = to_write given_tree c.args.out.now.items c.args.items.now

pub put_given_items-loop-item-preserved : goal.put_given_items-loop-item-preserved
put_given_items-loop-item-preserved t c = wrote given_tree c.loop-item.out.items c.put_given.new.out.items c.args.items.now c.loop-item.item-index _ c.item-item.result (omega arith) c.item-item.is c.in_ok-put_given.ensures c.loop-item.invariant

pub put_given_items-returns : goal.put_given_items-returns
put_given_items-returns t c = all_written given_tree c.loop-item.out.items c.args.items.now c.loop-item.item-index _ c.loop-item-test.false c.loop-item.invariant

pub put_call-returns-in_ok-put_givens-in-Direct : goal.put_call-returns-in_ok-put_givens-in-Direct
put_call-returns-in_ok-put_givens-in-Direct t c =
    let e = direct_tree c.in-Direct.function c.in-Direct.args c.in-Direct.bounds c.in-Direct.given in
    search (rules, append_assoc)

pub put_call-returns-in_ok-put_givens-in-Required : goal.put_call-returns-in_ok-put_givens-in-Required
put_call-returns-in_ok-put_givens-in-Required t c = search (rules, the_lemmas, append_assoc)

pub put_place-returns-in_ok-put_ref-in-Global : goal.put_place-returns-in_ok-put_ref-in-Global
put_place-returns-in_ok-put_ref-in-Global t c = search (rules, the_lemmas, append_assoc)

pub put_place-returns-in_ok-put_place-in-FieldOf : goal.put_place-returns-in_ok-put_place-in-FieldOf
put_place-returns-in_ok-put_place-in-FieldOf t c = search (rules, the_lemmas, append_assoc)

pub put_place-returns-in_ok-put_place-in-Component : goal.put_place-returns-in_ok-put_place-in-Component
put_place-returns-in_ok-put_place-in-Component t c = search (rules, the_lemmas, append_assoc)

pub put_place-returns-in_ok-put_expr-in-ElementOf : goal.put_place-returns-in_ok-put_expr-in-ElementOf
put_place-returns-in_ok-put_expr-in-ElementOf t c = search (rules, the_lemmas, append_assoc)

pub put_expr-returns-in_ok-put_place-in-Read : goal.put_expr-returns-in_ok-put_place-in-Read
put_expr-returns-in_ok-put_place-in-Read t c = search (rules, the_lemmas, append_assoc)

pub put_expr-returns-in_ok-put_expr-in-Choose-2 : goal.put_expr-returns-in_ok-put_expr-in-Choose-2
put_expr-returns-in_ok-put_expr-in-Choose-2 t c = search (rules, the_lemmas, append_assoc)

pub put_expr-returns-in_ok-put_expr-in-Swizzle : goal.put_expr-returns-in_ok-put_expr-in-Swizzle
put_expr-returns-in_ok-put_expr-in-Swizzle t c = search (rules, the_lemmas, append_assoc)

pub put_expr-returns-in_ok-put_expr-in-Field : goal.put_expr-returns-in_ok-put_expr-in-Field
put_expr-returns-in_ok-put_expr-in-Field t c = search (rules, the_lemmas, append_assoc)

pub put_expr-returns-in_ok-put_call-in-Call : goal.put_expr-returns-in_ok-put_call-in-Call
put_expr-returns-in_ok-put_call-in-Call t c = search (rules, the_lemmas, append_assoc)

pub put_expr-returns-in_ok-put_value-in-Fixed : goal.put_expr-returns-in_ok-put_value-in-Fixed
put_expr-returns-in_ok-put_value-in-Fixed t c = search (rules, the_lemmas, append_assoc)

pub put_expr-returns-in_ok-put_expr-in-Element : goal.put_expr-returns-in_ok-put_expr-in-Element
put_expr-returns-in_ok-put_expr-in-Element t c = search (rules, the_lemmas, append_assoc)

pub put_expr-returns-in_ok-put_exprs-in-Vector : goal.put_expr-returns-in_ok-put_exprs-in-Vector
put_expr-returns-in_ok-put_exprs-in-Vector t c = let e = vector_tree c.in-Vector.of c.in-Vector.items in search (rules, append_assoc)

pub put_expr-returns-in_ok-put_exprs-in-List : goal.put_expr-returns-in_ok-put_exprs-in-List
put_expr-returns-in_ok-put_exprs-in-List t c = let e = array_tree c.in-List.of c.in-List.items in search (rules, append_assoc)
