use Rattle.std.proofs.Common.{◌≡◌, ◌≤◌, ◌<◌, ℕ, get_or}
use Rattle.refusal_lines.specs.Positions.{BeginsAt}
use Rattle.refusal_lines.proofs.positions.line_start.Given as goal

abbrev pub invariant-loop-i : goal.invariant-loop-i
invariant-loop-i l = record {
  within : l.start ≤ l.i;
  none : (k : ℕ) → l.start ≤ k → k < l.i → get_or l.text k 0 ≡ 10 → ⊥;
  begins : BeginsAt l.text l.start;
}
