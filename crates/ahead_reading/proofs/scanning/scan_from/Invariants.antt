use Rattle.std.proofs.Common.{◌≡◌, List, ℕ, ◌≤◌, ◌-◌, length}
use Rattle.slang_reading.specs.Lexed.{lexed_all}
use Rattle.ahead_reading.specs.Knowing.{Knows, Grows}
use Rattle.ahead_reading.specs.declared.brackets.Bracket.TheVariants.{Many}
use Rattle.ahead_reading.specs.Brackets.{AllCome, outermost}
use Rattle.ahead_reading.proofs.scanning.scan_from.Given as goal

abbrev pub invariant-loop-token : goal.invariant-loop-token
invariant-loop-token l = record {
  within : l.at ≤ length l.tokens;
  comes : (text : List ℕ) → Knows l.fn.scans (lexed_all text l.tokens) → AllCome (lexed_all text l.tokens) l.at l.brackets × Knows l.scans (lexed_all text l.tokens);
  grows : Grows l.fn.scans l.scans;
  begins : outermost l.brackets ≡ Many l.begin;
}

abbrev pub decreases-loop-token : goal.decreases-loop-token
decreases-loop-token l = length l.tokens - l.at
