use Rattle.std.proofs.Common.{sym, ◌∙◌}
use Rattle.spirv_run.proofs.Memories.{put_word_slot}
use Rattle.spirv_run.proofs.access.write_word.Goals as goal

pub returns : goal.returns
returns c = λ position at.
    let b = c.args.bound.now in
    c.set.ensures.set ∙ sym (put_word_slot c.args.buffers.now c.position_of-position.result b.set b.binding c.args.index c.args.word
    c.position_of-position.ensures.ascends (c.position_of-position.ensures.at position at))
