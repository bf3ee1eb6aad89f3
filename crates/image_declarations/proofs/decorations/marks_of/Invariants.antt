use Rattle.std.proofs.Common.{◌≡◌, ◌++◌, length, drop}
use Rattle.image_declarations.specs.Decorations.{Marks}
use Rattle.image_declarations.proofs.decorations.marks_of.Given as goal

abbrev pub invariant-loop-last : goal.invariant-loop-last
invariant-loop-last l = (l.code ≡ l.left ++ drop (length l.left) l.code) × Marks l.marks (drop (length l.left) l.code) (length l.left)

abbrev pub decreases-loop-last : goal.decreases-loop-last
decreases-loop-last l = length l.left
