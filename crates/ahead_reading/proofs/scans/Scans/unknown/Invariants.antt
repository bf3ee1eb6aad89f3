use Rattle.std.proofs.Common.{◌≡◌, List, length}
use Rattle.slang_reading.specs.Lexed.{Lexed}
use Rattle.ahead_reading.specs.Knowing.{Knows}
use Rattle.ahead_reading.proofs.scans.Scans.unknown.Given as goal

abbrev pub invariant-loop-token : goal.invariant-loop-token
invariant-loop-token l = record {
  knows : (ts : List Lexed) → Knows (record { known = l.known }) ts;
  count : length l.known ≡ l._token;
}
