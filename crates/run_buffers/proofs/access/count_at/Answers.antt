use Rattle.std.proofs.Common.{length, sym, ap, ◌∙◌}
use Rattle.run_buffers.proofs.ByPosition.{words_read, words_past}
use Rattle.run_buffers.proofs.access.count_at.Goals as goal

pub returns-in-Some : goal.returns-in-Some
returns-in-Some c =
    let k = c.in-Some.ensures.lookup.3 in
    c.len.ensures ∙ ap length (sym (words_read c.args.buffers.now c.args.position c.in-Some.buffer.now k.0 k.1))

pub returns-in-None : goal.returns-in-None
returns-in-None c = sym (ap length (words_past c.args.buffers.now c.args.position c.in-None.ensures.lookup.3))
