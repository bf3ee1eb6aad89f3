use Rattle.std.proofs.Common.{◌≡◌, ◌++◌, length}
use Rattle.spirv_words.specs.Strings.{string_words}
use Rattle.spirv_words.proofs.strings.string_words.Given as goal

abbrev pub invariant-loop-rest : goal.invariant-loop-rest
invariant-loop-rest l = l.words.items ++ string_words l.rest ≡ string_words l.fn.bytes

abbrev pub decreases-loop-rest : goal.decreases-loop-rest
decreases-loop-rest l = length l.rest
