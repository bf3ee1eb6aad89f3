use Rattle.spirv_words.proofs.StringWords.{length-string_words}
use Rattle.spirv_words.proofs.strings.string_is_short.Goals as goal

pub returns : goal.returns
returns c = length-string_words
