use Rattle.std.proofs.Common.{◌≡◌}
use Rattle.image_places.specs.Places.{word_of}
use Rattle.image_lookup.proofs.words.word_of.Given as goal

abbrev pub invariant-loop-at : goal.invariant-loop-at
invariant-loop-at l = l.word ≡ word_of l.code l.at
