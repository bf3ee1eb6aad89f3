use Rattle.std.proofs.Common.{◌≡◌, length}
use Rattle.first_image.specs.Image.{items_constants}
use Rattle.first_image.proofs.numbers.add_items.Given as goal

-- what is left is still to be added
abbrev pub invariant-loop-last : goal.invariant-loop-last
invariant-loop-last l = items_constants l.left l.numbers.keys ≡ items_constants l.fn.items l.fn.numbers.keys

abbrev pub decreases-loop-last : goal.decreases-loop-last
decreases-loop-last l = length l.left
