use Rattle.spirv_words.proofs.StringWords.{after_string-string_words}
use Rattle.spirv_words.proofs.strings.string_is_read.Goals as goal

pub returns : goal.returns
returns c = after_string-string_words
