use Rattle.std.proofs.Common.{◌≡◌, ◌++◌, drop}
use Rattle.run_buffers.specs.Texts.{line}
use Rattle.run_buffers.proofs.writing.put_words.Given as goal

-- what is written with the line of the words that are left
abbrev pub invariant-loop-i : goal.invariant-loop-i
invariant-loop-i l = l.out.items ++ line (drop l.i l.words) ≡ l.fn.out.items ++ line l.words
