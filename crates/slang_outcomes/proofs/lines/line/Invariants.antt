use Rattle.std.proofs.Common.{◌≡◌, ◌++◌, map, take}
use Rattle.slang_outcomes.specs.Lines.{spaced}
use Rattle.slang_outcomes.proofs.lines.line.Given as goal

-- the first word, and the words so far
abbrev pub invariant-loop-word : goal.invariant-loop-word
invariant-loop-word l = l.line.items ≡ l.fn.first ++ spaced (map (λ word. word.now) (take l.word-index l.more))
