use Rattle.std.proofs.Common.{length, ◌-◌}
use Rattle.slang_tokens.proofs.Cuts.{SoFar}
use Rattle.slang_tokens.proofs.cutting.lex.Given as goal

abbrev pub invariant-loop-at : goal.invariant-loop-at
invariant-loop-at l = SoFar l.text l.at l.list

abbrev pub decreases-loop-at : goal.decreases-loop-at
decreases-loop-at l = length l.text - l.at
