use Rattle.std.proofs.Common.{List, length, reverse}
use Rattle.slang_reading.specs.Lexed.{Lexed}
use Rattle.ahead_reading.specs.Knowing.{Knows, Grows}
use Rattle.ahead_reading.specs.Brackets.{AllStop, all_of, outermost}
use Rattle.ahead_reading.proofs.Growth.{Remains}
use Rattle.ahead_reading.proofs.brackets.Brackets.stop.Given as goal

abbrev pub invariant-loop-bracket : goal.invariant-loop-bracket
invariant-loop-bracket l = record {
  knows : (ts : List Lexed) → AllStop ts l.far (all_of l.fn.self) → Knows l.fn.scans ts → Knows l.scans ts × AllStop ts l.far (reverse l.under);
  grows : Grows l.fn.scans l.scans;
  told : Remains l.scans (outermost l.fn.self) l.under;
}

abbrev pub decreases-loop-bracket : goal.decreases-loop-bracket
decreases-loop-bracket l = length l.under
