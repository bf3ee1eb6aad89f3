use Rattle.std.proofs.Common.{◌≡◌, ◌+◌, ◌≤◌, drop}
use Rattle.refusal_lines.specs.Positions.{feeds}
use Rattle.refusal_lines.proofs.positions.feeds.Given as goal

abbrev pub invariant-loop-i : goal.invariant-loop-i
invariant-loop-i l = record {
  tells : feeds l.bytes ≡ l.count + feeds (drop l.i l.bytes);
  within : l.count ≤ l.i;
}
