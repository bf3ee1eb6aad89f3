use Rattle.std.proofs.Common.{ap, sym, ◌∙◌}
use Rattle.command_words.specs.Words.{is_number}
use Rattle.command_words.proofs.Decimals.{read_is, unread_is}
use Rattle.command_words.proofs.numbers.number_within.Goals as goal

pub returns-in-Ok : goal.returns-in-Ok
returns-in-Ok c =
    let is = ap is_number (sym c.as_bytes.ensures.value) ∙ sym c.is_number.ensures ∙ c.if-not-is_number.false in
    c.up_to.ensures ∙ read_is c.args.limit c.in-Ok.number c.args.word.now c.parse.result is c.parse.ensures.value.0 c.in-Ok.is

pub returns-in-Err : goal.returns-in-Err
returns-in-Err c =
    let is = ap is_number (sym c.as_bytes.ensures.value) ∙ sym c.is_number.ensures ∙ c.if-not-is_number.false in
    unread_is c.args.limit c.args.word.now c.parse.result c.in-Err.field-0 c.ranges.limit.fits is c.parse.ensures.value.0 c.in-Err.is
