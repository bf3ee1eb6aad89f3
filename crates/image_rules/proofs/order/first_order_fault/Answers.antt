use Rattle.std.proofs.Common.{◌≤◌, length, refl, sym, arith, ◌∙◌}
use borrow.Author.Count.{below_more}
use Rattle.image_rules.specs.Order.{out_of_order}
use Rattle.image_rules.proofs.Walking.{item, within, op_here, image_fits, fits, one_on, found_here, not_at_all, up_to, from_end, no_op}
use Rattle.image_rules.proofs.InOrder.{tested, reached_next}
use Rattle.image_rules.proofs.order.first_order_fault.Goals as goal

pub loop-instruction-init : goal.loop-instruction-init
loop-instruction-init c = record {
  cursor_is = c.start-cursor.ensures c.args.image.now.instructions;
  reached_is = refl;
  before = λ j h. absurd (omega arith);
}

pub returns-then-is_misplaced : goal.returns-then-is_misplaced
returns-then-is_misplaced c =
    let same = c.as_slice-instructions.ensures in
    let is = c.args.image.now.instructions in
    let k = c.loop-instruction.instruction-index in
    let at = c.loop-instruction.invariant.cursor_is in
    let here = item _ _ k _ same c.loop-instruction-test.true c.instruction-item.is in
    let inside : k ≤ length is = (let h = within _ is k same c.loop-instruction-test.true in omega arith) in
    let wrong = sym (tested is k _ c.loop-instruction.cursor _ at c.loop-instruction.invariant.reached_is (op_here is k _ here))
    ∙ (sym c.is_misplaced.ensures ∙ c.if-is_misplaced.true) in
    found_here c.the_first_wrong_instruction_is_the_first_fault.ensures.some is (out_of_order is) k c.loop-instruction.cursor at inside wrong c.loop-instruction.invariant.before

pub pass-requires-clause-short : goal.pass-requires-clause-short
pass-requires-clause-short c =
    let same = c.as_slice-instructions.ensures in
    let is = c.args.image.now.instructions in
    let k = c.loop-instruction.instruction-index in
    let here = item _ _ k _ same c.loop-instruction-test.true c.instruction-item.is in
    fits c.places_grow.ensures.next c.places_grow.ensures.grow is k _ c.loop-instruction.cursor c.loop-instruction.invariant.cursor_is here (within _ is k same c.loop-instruction-test.true)
    (image_fits c.places_grow.ensures.end c.args.image.now c.requires)

pub loop-instruction-preserved : goal.loop-instruction-preserved
loop-instruction-preserved c =
    let same = c.as_slice-instructions.ensures in
    let is = c.args.image.now.instructions in
    let k = c.loop-instruction.instruction-index in
    let at = c.loop-instruction.invariant.cursor_is in
    let here = item _ _ k _ same c.loop-instruction-test.true c.instruction-item.is in
    record {
      cursor_is = one_on is k c.pass.new.self (c.pass.ensures is k at here);
      reached_is = reached_next is k _ c.loop-instruction.cursor _ c.reached_after-reached.result at c.loop-instruction.invariant.reached_is here c.reached_after-reached.ensures;
      before = below_more _ _ c.loop-instruction.invariant.before
          (sym (tested is k _ c.loop-instruction.cursor _ at c.loop-instruction.invariant.reached_is (op_here is k _ here))
          ∙ (sym c.is_misplaced.ensures ∙ c.if-is_misplaced.false));
    }

pub returns-then-is_misplaced-2 : goal.returns-then-is_misplaced-2
returns-then-is_misplaced-2 c =
    let same = c.as_slice-instructions.ensures in
    let is = c.args.image.now.instructions in
    let k = c.loop-instruction.instruction-index in
    let at = c.loop-instruction.invariant.cursor_is in
    let wrong = sym (tested is k _ c.loop-instruction.cursor _ at c.loop-instruction.invariant.reached_is (no_op is k (from_end _ is k same c.loop-instruction-test.false)))
    ∙ (sym c.is_misplaced-2.ensures ∙ c.if-is_misplaced-2.true) in
    found_here c.the_first_wrong_instruction_is_the_first_fault.ensures.some is (out_of_order is) k c.loop-instruction.cursor at
    (up_to _ is k same c.loop-instruction.auto.instruction-index-end) wrong c.loop-instruction.invariant.before

pub returns : goal.returns
returns c =
    let same = c.as_slice-instructions.ensures in
    let is = c.args.image.now.instructions in
    let k = c.loop-instruction.instruction-index in
    let at = c.loop-instruction.invariant.cursor_is in
    let over = from_end _ is k same c.loop-instruction-test.false in
    let right = sym (tested is k _ c.loop-instruction.cursor _ at c.loop-instruction.invariant.reached_is (no_op is k over))
    ∙ (sym c.is_misplaced-2.ensures ∙ c.if-is_misplaced-2.false) in
    c.the_first_wrong_instruction_is_the_first_fault.ensures.none is (out_of_order is)
    (not_at_all (out_of_order is) k (length is) over c.loop-instruction.invariant.before right)
