use Rattle.std.proofs.Common.{◌≡◌, ◌≤◌, ◌<◌, ℕ, get_or}
use Rattle.refusal_lines.proofs.positions.line_end.Given as goal

abbrev pub invariant-loop-i : goal.invariant-loop-i
invariant-loop-i l = record {
  within : l.place ≤ l.i;
  none : (k : ℕ) → l.place ≤ k → k < l.i → get_or l.text k 0 ≡ 10 → ⊥;
}
