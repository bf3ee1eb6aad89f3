use Rattle.first_image.proofs.ImageSizes.{image_short}
use Rattle.first_image.proofs.spelling.image_is_short.Goals as goal

pub returns : goal.returns
returns c = image_short c.string_is_short.ensures
