use Rattle.first_image.proofs.Agreement.{agreement}
use Rattle.first_image.proofs.laws.words_mean_source.Goals as goal

pub returns : goal.returns
returns c home shader = agreement home shader
