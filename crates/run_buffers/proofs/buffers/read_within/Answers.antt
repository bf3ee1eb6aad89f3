use Rattle.std.proofs.Common.{◌≤◌, length, drop, sym, ap, ◌∙◌, arith}
use Rattle.std.proofs.lemmas.List.{take_all}
use Rattle.run_buffers.proofs.Whole.{refused_too_long, refused_from_breaks, first_parts, first_length, first_full}
use Rattle.run_buffers.proofs.buffers.read_within.Goals as goal

pub returns-in-Err-At-clause-refused : goal.returns-in-Err-At-clause-refused
returns-in-Err-At-clause-refused c =
    let front = c.within_limit-front.result.now in
    let behind = drop 16777216 c.args.bytes.now in
    rw c.refused.ensures (refused_from_breaks front behind c.args.bytes.now c.in-Err-At.left (rw c.in-Err-At.field-0-is at c.in-Err-At.ensures.breaks)
    (first_parts 16777216 c.args.bytes.now front c.within_limit-front.ensures) (first_length 16777216 c.args.bytes.now front c.within_limit-front.ensures) (first_full 16777216 c.args.bytes.now front c.within_limit-front.ensures))

pub returns-then-front-bytes-clause-refused : goal.returns-then-front-bytes-clause-refused
returns-then-front-bytes-clause-refused c =
    let front = c.within_limit-front.result.now in
    let behind = drop 16777216 c.args.bytes.now in
    rw c.refused-then-front-bytes.ensures (refused_too_long front behind c.args.bytes.now c.in-Ok.buffers.items
    (first_parts 16777216 c.args.bytes.now front c.within_limit-front.ensures) (first_full 16777216 c.args.bytes.now front c.within_limit-front.ensures) c.in-Ok.ensures.text c.in-Ok.ensures.fits c.if-front-bytes.true)

pub returns-else-front-bytes-clause-text : goal.returns-else-front-bytes-clause-text
returns-else-front-bytes-clause-text c =
    let front = c.within_limit-front.result.now in
    let l = ap length c.within_limit-front.ensures in
    let h = first_length 16777216 c.args.bytes.now front c.within_limit-front.ensures in
    let short : length c.args.bytes.now ≤ 16777216 = omega arith in
    record {
      fits = c.in-Ok.ensures.fits;
      is = sym (take_all 16777216 c.args.bytes.now short) ∙ (sym c.within_limit-front.ensures ∙ c.in-Ok.ensures.text);
      short = short;
    }
