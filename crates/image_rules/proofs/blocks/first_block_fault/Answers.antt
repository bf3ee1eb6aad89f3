use Rattle.std.proofs.Common.{◌≤◌, length, refl, sym, arith, ◌∙◌}
use borrow.Author.Count.{below_more}
use Rattle.image_rules.specs.Blocks.{breaks_block}
use Rattle.image_rules.proofs.Walking.{item, within, image_fits, fits, one_on, found_here, not_at_all, from_end}
use Rattle.image_rules.proofs.InBlocks.{ended_next, front_next, tested, end_is_right, behind, standing_in}
use Rattle.image_rules.proofs.blocks.first_block_fault.Goals as goal

pub loop-instruction-init : goal.loop-instruction-init
loop-instruction-init c = record {
  cursor_is = c.start-cursor.ensures c.args.image.now.instructions;
  ended_is = refl;
  front_is = refl;
  before = λ j h. absurd (omega arith);
}

pub returns-then-breaks_block : goal.returns-then-breaks_block
returns-then-breaks_block c =
    let same = c.as_slice-instructions.ensures in
    let is = c.args.image.now.instructions in
    let k = c.loop-instruction.instruction-index in
    let at = c.loop-instruction.invariant.cursor_is in
    let here = item _ is k _ same c.loop-instruction-test.true c.instruction-item.is in
    let inside : k ≤ length is = (let h = within _ is k same c.loop-instruction-test.true in omega arith) in
    let test = tested is k c.instruction-item.result c.loop-instruction.cursor c.loop-instruction.ended c.loop-instruction.front c.op_at-next.result _ at here
    c.loop-instruction.invariant.ended_is c.loop-instruction.invariant.front_is (behind _ is k 0 c.loop-instruction.cursor _ same at c.op_at-next.ensures)
    (standing_in _ is _ same c.in_ok-labels.ensures) in
    let wrong = sym test ∙ (sym c.breaks_block.ensures ∙ c.if-breaks_block.true) in
    found_here c.the_first_wrong_instruction_is_the_first_fault.ensures.some is (breaks_block is) k c.loop-instruction.cursor at inside wrong c.loop-instruction.invariant.before

pub pass-requires-clause-short : goal.pass-requires-clause-short
pass-requires-clause-short c =
    let same = c.as_slice-instructions.ensures in
    let is = c.args.image.now.instructions in
    let k = c.loop-instruction.instruction-index in
    let here = item _ _ k _ same c.loop-instruction-test.true c.instruction-item.is in
    fits c.places_grow.ensures.next c.places_grow.ensures.grow is k _ c.loop-instruction.cursor c.loop-instruction.invariant.cursor_is here (within _ is k same c.loop-instruction-test.true)
    (image_fits c.places_grow.ensures.end c.args.image.now c.requires)

pub loop-instruction-preserved : goal.loop-instruction-preserved
loop-instruction-preserved c =
    let same = c.as_slice-instructions.ensures in
    let is = c.args.image.now.instructions in
    let k = c.loop-instruction.instruction-index in
    let at = c.loop-instruction.invariant.cursor_is in
    let here = item _ is k _ same c.loop-instruction-test.true c.instruction-item.is in
    let test = tested is k c.instruction-item.result c.loop-instruction.cursor c.loop-instruction.ended c.loop-instruction.front c.op_at-next.result _ at here
    c.loop-instruction.invariant.ended_is c.loop-instruction.invariant.front_is (behind _ is k 0 c.loop-instruction.cursor _ same at c.op_at-next.ensures)
    (standing_in _ is _ same c.in_ok-labels.ensures) in
    record {
      cursor_is = one_on is k c.pass.new.self (c.pass.ensures is k at here);
      ended_is = ended_next is k c.instruction-item.result c.is_ending-ended.result here c.is_ending-ended.ensures;
      front_is = front_next is k c.instruction-item.result c.loop-instruction.cursor c.loop-instruction.front c.stays_in_front-front.result at here c.loop-instruction.invariant.front_is c.stays_in_front-front.ensures;
      before = below_more _ _ c.loop-instruction.invariant.before (sym test ∙ (sym c.breaks_block.ensures ∙ c.if-breaks_block.false));
    }

pub returns : goal.returns
returns c =
    let same = c.as_slice-instructions.ensures in
    let is = c.args.image.now.instructions in
    let k = c.loop-instruction.instruction-index in
    let over = from_end _ is k same c.loop-instruction-test.false in
    c.the_first_wrong_instruction_is_the_first_fault.ensures.none is (breaks_block is)
    (not_at_all (breaks_block is) k (length is) over c.loop-instruction.invariant.before (end_is_right is k over))
