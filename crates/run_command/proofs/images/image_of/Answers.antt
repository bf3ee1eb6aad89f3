use Rattle.std.proofs.Common.{◌∙◌}
use Rattle.run_command.proofs.Held.{unread_wrong, invalid_wrong, valid_held}
use Rattle.run_command.proofs.images.image_of.Goals as goal

pub returns-in-Ok-clause-valid : goal.returns-in-Ok-clause-valid
returns-in-Ok-clause-valid c =
    valid_held c.args.bytes.now c.requires _ c.in-Ok.image c.check_image.result c.in_ok-words.ensures.whole (c.as_slice.ensures.value ∙ c.in_ok-words.ensures.words) c.in-Ok.ensures.spelled c.check_image.ensures.valid

pub returns-in-Ok-clause-wrong : goal.returns-in-Ok-clause-wrong
returns-in-Ok-clause-wrong c =
    invalid_wrong c.args.bytes.now c.requires _ c.in-Ok.image c.check_image.result c.in_ok-words.ensures.whole (c.as_slice.ensures.value ∙ c.in_ok-words.ensures.words) c.in-Ok.ensures.spelled c.check_image.ensures.invalid

pub returns-clause-wrong : goal.returns-clause-wrong
returns-clause-wrong c =
    unread_wrong c.args.bytes.now c.requires _ c.in-Err.fault c.in_ok-words.ensures.whole (c.as_slice.ensures.value ∙ c.in_ok-words.ensures.words) c.in-Err.ensures.unread
