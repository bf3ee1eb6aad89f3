use Rattle.std.proofs.Common.{◌≡◌, ◌<◌, ◌+◌, true, List, ℕ, length, drop}
use Rattle.slang_reading.specs.Lexed.{lexed_all}
use Rattle.slang_reading.specs.Reading.{first}
use Rattle.ahead_reading.specs.Knowing.{Knows, ToldAt, is_name, is_less}
use Rattle.ahead_reading.proofs.scans.Scans.new.Given as goal

abbrev pub invariant-loop-at : goal.invariant-loop-at
invariant-loop-at l = record {
  knows : (text : List ℕ) → Knows l.scans (lexed_all text l.tokens);
  count : length l.scans.known ≡ length l.tokens;
  told : (at : ℕ) → at + 1 < l.at → is_name (first (drop at l.tokens)) ≡ true → is_less (first (drop (at + 1) l.tokens)) ≡ true → ToldAt l.scans (at + 1);
}
