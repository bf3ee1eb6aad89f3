use Rattle.std.proofs.Common.{◌≡◌, drop}
use Rattle.spirv_words.specs.Layouts.{after_string}
use Rattle.spirv_words.proofs.layouts.after_string.Given as goal

-- the words so far were words of a string that goes on
abbrev pub invariant-loop-i : goal.invariant-loop-i
invariant-loop-i l = after_string (drop l.i l.words) ≡ after_string l.words
