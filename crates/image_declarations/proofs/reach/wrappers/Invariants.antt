use Rattle.std.proofs.Common.{◌≡◌, ◌++◌, length, drop}
use Rattle.image_declarations.specs.Reach.{Wraps}
use Rattle.image_declarations.proofs.reach.wrappers.Given as goal

abbrev pub invariant-loop-last : goal.invariant-loop-last
invariant-loop-last l = (l.definitions ≡ l.left ++ drop (length l.left) l.definitions) × Wraps l.types l.definitions (drop (length l.left) l.definitions)

abbrev pub decreases-loop-last : goal.decreases-loop-last
decreases-loop-last l = length l.left
