use Rattle.std.proofs.Common.{◌≡◌, ◌+◌, suc, sym, ap, arith, ◌∙◌}
use Rattle.image_places.specs.Places.{word_of}
use Rattle.image_rules.proofs.Walking.{item, within, image_fits, fits, one_on, from_end}
use Rattle.image_rules.proofs.Wrong.{same_test, clean_next, none_wrong, first_wrong, defined_in}
use Rattle.image_rules.proofs.ids.first_id_fault.Goals as goal

pub loop-instruction-init : goal.loop-instruction-init
loop-instruction-init c = record {
  cursor_is = c.start-cursor.ensures c.args.image.now.instructions;
  before = λ k h. absurd (omega arith);
}

pub pass-requires-clause-short : goal.pass-requires-clause-short
pass-requires-clause-short c =
    let same = c.as_slice-instructions.ensures in
    let is = c.args.image.now.instructions in
    let k = c.loop-instruction.instruction-index in
    let here = item _ _ k _ same c.loop-instruction-test.true c.instruction-item.is in
    fits c.places_grow.ensures.next c.places_grow.ensures.grow is k _ c.loop-instruction.cursor c.loop-instruction.invariant.cursor_is here (within _ is k same c.loop-instruction-test.true)
    (image_fits c.places_grow.ensures.end c.args.image.now c.requires)

pub overflow_add-result : goal.overflow_add-result
overflow_add-result c =
    let same = c.as_slice-instructions.ensures in
    let is = c.args.image.now.instructions in
    let k = c.loop-instruction.instruction-index in
    let here = item _ _ k _ same c.loop-instruction-test.true c.instruction-item.is in
    let room = fits c.places_grow.ensures.next c.places_grow.ensures.grow is k _ c.loop-instruction.cursor c.loop-instruction.invariant.cursor_is here (within _ is k same c.loop-instruction-test.true)
    (image_fits c.places_grow.ensures.end c.args.image.now c.requires) in
    omega (arith, room)

pub overflow_add-result-in-Some : goal.overflow_add-result-in-Some
overflow_add-result-in-Some c =
    let same = c.as_slice-instructions.ensures in
    let is = c.args.image.now.instructions in
    let k = c.loop-instruction.instruction-index in
    let here = item _ _ k _ same c.loop-instruction-test.true c.instruction-item.is in
    let room = fits c.places_grow.ensures.next c.places_grow.ensures.grow is k _ c.loop-instruction.cursor c.loop-instruction.invariant.cursor_is here (within _ is k same c.loop-instruction-test.true)
    (image_fits c.places_grow.ensures.end c.args.image.now c.requires) in
    omega (arith, room, c.in-Some.ensures.0)

pub returns-in-Some : goal.returns-in-Some
returns-in-Some c =
    let same = c.as_slice-instructions.ensures in
    let image = c.args.image.now in
    let is = c.args.image.now.instructions in
    let k = c.loop-instruction.instruction-index in
    let at = c.loop-instruction.invariant.cursor_is in
    let here = item _ is k _ same c.loop-instruction-test.true c.instruction-item.is in
    let passed = c.pass.ensures is k at here in
    let number_is = ap (λ x. x.number) at in
    let defined = defined_in _ is _ same c.in_ok-map.ensures in
    let place_at : c.loop-instruction.cursor.place ≡ word_of is k = ap (λ x. x.place) at in
    let j = c.in-Some.operand in
    let place_is : c.loop-instruction.cursor.place + 1 + j ≡ word_of is k + suc j = omega (arith, place_at) in
    first_wrong c.places_grow.ensures.next c.places_grow.ensures.grow image k c.instruction-item.result j _ here c.in-Some.ensures.0
    (sym (same_test image _ c.instruction-item.result k c.loop-instruction.cursor.number c.pass.new.self j defined passed number_is) ∙ c.in-Some.ensures.1)
    c.loop-instruction.invariant.before
    (λ m h. sym (same_test image _ c.instruction-item.result k c.loop-instruction.cursor.number c.pass.new.self m defined passed number_is) ∙ c.in-Some.ensures.2 m h)
    place_is

pub loop-instruction-preserved : goal.loop-instruction-preserved
loop-instruction-preserved c =
    let same = c.as_slice-instructions.ensures in
    let image = c.args.image.now in
    let is = c.args.image.now.instructions in
    let k = c.loop-instruction.instruction-index in
    let at = c.loop-instruction.invariant.cursor_is in
    let here = item _ is k _ same c.loop-instruction-test.true c.instruction-item.is in
    let passed = c.pass.ensures is k at here in
    let number_is = ap (λ x. x.number) at in
    let defined = defined_in _ is _ same c.in_ok-map.ensures in
    record {
      cursor_is = one_on is k c.pass.new.self passed;
      before = clean_next image k c.instruction-item.result here c.loop-instruction.invariant.before
          (λ j h. sym (same_test image _ c.instruction-item.result k c.loop-instruction.cursor.number c.pass.new.self j defined passed number_is) ∙ c.in-None.ensures j h);
    }

pub returns : goal.returns
returns c =
    let same = c.as_slice-instructions.ensures in
    let is = c.args.image.now.instructions in
    let k = c.loop-instruction.instruction-index in
    none_wrong c.args.image.now k (from_end _ is k same c.loop-instruction-test.false) c.loop-instruction.invariant.before
