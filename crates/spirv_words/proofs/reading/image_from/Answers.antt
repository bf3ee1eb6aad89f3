use Rattle.std.proofs.Common.{sym}
use Rattle.std.proofs.lemmas.Result.{err_from_is_err_and}
use Rattle.spirv_words.specs.Unread.{WrongInstruction}
use Rattle.spirv_words.proofs.OneInstruction.{refused_so}
use Rattle.spirv_words.proofs.Answered.{spelled_whole}
use Rattle.spirv_words.proofs.reading.image_from.Goals as goal

pub returns-clause-spelled : goal.returns-clause-spelled
returns-clause-spelled c =
    spelled_whole c.args.words.now c.in_ok-instructions.instructions c.if-words-lt5.false c.in-None.ensures c.in_ok-instructions.ensures.spelled c.in_ok-instructions.ensures.are_some

pub returns-in_err-instructions-clause-unread : goal.returns-in_err-instructions-clause-unread
returns-in_err-instructions-clause-unread c =
    let p = err_from_is_err_and c.from_residual.result c.from_residual.ensures.1 in
    rw (p.1, p.2) (refused_so c.in_err-instructions.field-0.0 _ _ (λ place code h. WrongInstruction h.0 c.if-words-lt5.false (sym c.in-None.ensures) h.2 h.1)
    c.in_err-instructions.ensures.refused)
