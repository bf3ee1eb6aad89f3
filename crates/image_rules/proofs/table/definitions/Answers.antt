use Rattle.std.proofs.Common.{refl, ap, arith}
use Rattle.std.proofs.lemmas.Grind.{common_steps}
use Rattle.image_rules.proofs.Walking.{item, body_fits, fits, one_on}
use Rattle.image_rules.proofs.Defined.{defined_next}
use Rattle.image_rules.proofs.table.definitions.Goals as goal

pub loop-instruction-init : goal.loop-instruction-init
loop-instruction-init c = record {
  cursor_is = c.start-cursor.ensures c.args.instructions.now;
  map_is = λ q. grind (arith, common_steps, c.new-map.ensures.empty);
}

pub pass-requires-clause-short : goal.pass-requires-clause-short
pass-requires-clause-short c =
    let is = c.args.instructions.now in
    let k = c.loop-instruction.instruction-index in
    let here = item is is k _ refl c.loop-instruction-test.true c.instruction-item.is in
    fits c.places_grow.ensures.next c.places_grow.ensures.grow is k _ c.loop-instruction.cursor c.loop-instruction.invariant.cursor_is here c.loop-instruction-test.true
    (body_fits c.places_grow.ensures.end is c.requires)

pub loop-instruction-preserved : goal.loop-instruction-preserved
loop-instruction-preserved c =
    let is = c.args.instructions.now in
    let k = c.loop-instruction.instruction-index in
    let at = c.loop-instruction.invariant.cursor_is in
    let here = item is is k _ refl c.loop-instruction-test.true c.instruction-item.is in
    let passed = c.pass.ensures is k at here in
    record {
      cursor_is = one_on is k c.pass.new.self passed;
      map_is = λ q. defined_next is k _ c.pass.new.self c.loop-instruction.cursor.number c.scope_of-scope.result q _ _ passed here (ap (λ x. x.number) at) c.scope_of-scope.ensures
          (c.loop-instruction.invariant.map_is q) (c.in_ok-add_result.ensures q);
    }
