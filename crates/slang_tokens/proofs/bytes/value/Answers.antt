use Rattle.std.proofs.Common.{◌∙◌, arith}
use Rattle.slang_tokens.proofs.Values.{value_large, value_next, value_whole}
use Rattle.slang_tokens.proofs.bytes.value.Goals as goal

pub returns-then-value-from : goal.returns-then-value-from
returns-then-value-from c =
    value_large c.args.radix c.args.digits.now c.base-base.result c.loop-b.value c.loop-b.b-index c.base-base.ensures c.loop-b.invariant.so_far
    c.from.result (omega arith) (c.from.ensures ∙ c.digit_value.ensures) (omega arith)

pub loop-b-preserved : goal.loop-b-preserved
loop-b-preserved c = record {
  bounded = omega arith;
  so_far = value_next c.args.radix c.args.digits.now c.base-base.result c.loop-b.value c.loop-b.b-index c.base-base.ensures c.loop-b.invariant.so_far
      c.from.result (omega arith) (c.from.ensures ∙ c.digit_value.ensures);
}

pub returns : goal.returns
returns c =
    value_whole c.args.radix c.args.digits.now c.base-base.result c.loop-b.value c.loop-b.b-index c.base-base.ensures c.loop-b.invariant.so_far
    (omega arith) c.loop-b.invariant.bounded
