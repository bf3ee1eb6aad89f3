use Rattle.std.proofs.Common.{sym, arith}
use Rattle.std.proofs.lemmas.List.{length-take-le, take_all}
use Rattle.run_buffers.proofs.buffers.within_limit.Goals as goal

pub slice_bounds-result-end : goal.slice_bounds-result-end
slice_bounds-result-end c = sym (length-take-le 16777216 c.args.bytes.now (omega arith))

pub returns-else-bytes-gt-BUFFERS_BYTES : goal.returns-else-bytes-gt-BUFFERS_BYTES
returns-else-bytes-gt-BUFFERS_BYTES c = sym (take_all 16777216 c.args.bytes.now (omega arith))
