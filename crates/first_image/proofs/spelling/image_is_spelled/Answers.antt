use Rattle.first_image.proofs.SpelledImages.{image_spelled}
use Rattle.first_image.proofs.spelling.image_is_spelled.Goals as goal

pub returns : goal.returns
returns c = image_spelled (record { read = c.string_is_read.ensures; short = c.string_is_short.ensures })
