use Rattle.spirv_words.proofs.Answered.{answered_if_spelled, answered_if_unread}
use Rattle.spirv_words.proofs.reading.read.Goals as goal

pub returns-clause-if_spelled : goal.returns-clause-if_spelled
returns-clause-if_spelled c = answered_if_spelled c.args.words.now c.image_from.result c.image_from.ensures.spelled c.image_from.ensures.unread

pub returns-clause-if_unread : goal.returns-clause-if_unread
returns-clause-if_unread c = answered_if_unread c.args.words.now c.image_from.result c.image_from.ensures.spelled c.image_from.ensures.unread
