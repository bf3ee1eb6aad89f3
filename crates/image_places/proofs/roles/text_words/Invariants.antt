use Rattle.std.proofs.Common.{◌≡◌, ◌+◌, drop}
use Rattle.image_places.specs.Roles.{text_words}
use Rattle.image_places.proofs.roles.text_words.Given as goal

-- the words so far were words of a string that goes on
abbrev pub invariant-loop-i : goal.invariant-loop-i
invariant-loop-i l = text_words l.words ≡ l.i + text_words (drop l.i l.words)
