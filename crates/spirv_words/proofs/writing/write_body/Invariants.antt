use Rattle.std.proofs.Common.{◌≡◌, ◌++◌, take}
use Rattle.spirv_words.specs.Words.{body_words}
use Rattle.spirv_words.proofs.writing.write_body.Given as goal

-- what is written so far are the words of the instructions so far
abbrev pub invariant-loop-instruction : goal.invariant-loop-instruction
invariant-loop-instruction l = l.words.items ≡ l.fn.words.items ++ body_words (take l.instruction-index l.body)
