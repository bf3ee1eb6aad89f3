use Rattle.spirv_run.proofs.Memories.{word_is}
use Rattle.spirv_run.proofs.access.read_word.Goals as goal

pub returns : goal.returns
returns c = λ position at less.
    let b = c.args.bound.now in
    word_is c.args.buffers.now c.position_of-position.result b.set b.binding c.args.index c.unwrap_or.result c.get.result c.position_of-position.ensures.ascends
    (c.position_of-position.ensures.at position at) less c.get.ensures c.unwrap_or.ensures
