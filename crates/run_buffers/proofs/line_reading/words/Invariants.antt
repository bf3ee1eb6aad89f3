use Rattle.std.proofs.Common.{◌≡◌, ℕ, ◌+◌, ◌-◌, List, ◌++◌, length}
use Rattle.std.specs.List.{AllByRecursion}
use Rattle.run_buffers.specs.Texts.{line, IsWord}
use Rattle.run_buffers.specs.Parts.{Stops}
use Rattle.run_buffers.specs.Lines.{AreWords}
use Rattle.run_buffers.proofs.line_reading.words.Given as goal

-- the words so far with those that are left make the line; where reading what is left stops, reading the whole stops
abbrev pub invariant-loop-i : goal.invariant-loop-i
invariant-loop-i l = record {
  many : length l.words ≡ l.i;
  narrow : AllByRecursion IsWord l.words;
  joins : (ws behind : List ℕ) → l.i + length ws ≡ l.count → l.rest ≡ line ws ++ behind → l.bytes ≡ line (l.words ++ ws) ++ behind;
  goes_on : (left : ℕ) → Stops line (AreWords (l.count - l.i)) l.rest left → Stops line (AreWords l.count) l.bytes left;
}
