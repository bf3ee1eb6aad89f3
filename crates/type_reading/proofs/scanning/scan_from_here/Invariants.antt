use Rattle.std.proofs.Common.{◌≡◌, ◌∷◌, reverse, ◌-◌, length}
use Rattle.slang_reading.specs.Cursor.{run}
use Rattle.type_reading.specs.Scanning.{scanned}
use Rattle.type_reading.proofs.Beside.{from}
use Rattle.type_reading.proofs.scanning.scan_from_here.Given as goal

abbrev pub invariant-loop-token : goal.invariant-loop-token
invariant-loop-token l = record {
  does : from l.tokens.tokens (l.state.top ∷ reverse l.state.under) l.state.awaited l.tokens.at l.tokens.seen ≡ run scanned l.fn.tokens;
  tokens : l.tokens.tokens ≡ l.fn.tokens.tokens;
}

abbrev pub decreases-loop-token : goal.decreases-loop-token
decreases-loop-token l = length l.tokens.tokens - l.tokens.at
