use Rattle.std.proofs.Common.{◌≡◌, ◌++◌, length, drop}
use Rattle.spirv_words.specs.Words.{body_words, AreInstructions}
use Rattle.spirv_words.proofs.reading.body_of.Given as goal

-- what is read so far, and the words that are left
abbrev pub invariant-loop-first : goal.invariant-loop-first
invariant-loop-first l = (drop 5 l.words ≡ body_words l.instructions ++ l.rest) × AreInstructions l.instructions

abbrev pub decreases-loop-first : goal.decreases-loop-first
decreases-loop-first l = length l.rest
