use Rattle.std.proofs.Common.{length, ap, arith}
use Rattle.std.proofs.lemmas.Grind.{common_steps}
use Rattle.spirv_words.proofs.Spelled.{length-bytes_of_words, words-from_bytes}
use Rattle.spirv_words.proofs.bytes.from_bytes.Goals as goal

pub returns-then-bytes-count-clause-undoes : goal.returns-then-bytes-count-clause-undoes
returns-then-bytes-count-clause-undoes c = λ words small e. omega (arith, length-bytes_of_words words, ap length e)

pub returns-clause-undoes : goal.returns-clause-undoes
returns-clause-undoes c = λ words small e. words-from_bytes _ _ words (grind (arith, common_steps)) small e
