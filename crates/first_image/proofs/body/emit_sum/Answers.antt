use Rattle.std.proofs.Common.{arith}
use Rattle.first_image.proofs.BodyCode.{sum_turn}
use Rattle.first_image.proofs.body.emit_sum.Goals as goal

pub loop-item-preserved : goal.loop-item-preserved
loop-item-preserved c =
    let ks = c.args.ids.now.numbers.items in
    let sum = c.args.sum.now in
    let k = c.loop-item.item-index in
    let before = c.loop-item.invariant in
    let plus = c.in_ok-value-2.ensures in
    let after = sum_turn ks sum.first sum.rest c.as_slice-item-items.result.now k c.args.out.now c.loop-item.out c.emit_plus.new.out c.loop-item.value c.in_ok-value-2.value
    c.as_slice-item-items.ensures c.loop-item-test.true (record { value = before.value; out = before.out }) plus.value plus.code in
    record { value = after.value; out = after.out; few = omega (arith, before.few, plus.few) }
