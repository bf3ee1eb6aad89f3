use Rattle.std.proofs.Common.{◌≡◌, ◌++◌, length, drop}
use Rattle.image_declarations.specs.Decorations.{MemberMarks}
use Rattle.image_declarations.proofs.decorations.member_marks_of.Given as goal

abbrev pub invariant-loop-last : goal.invariant-loop-last
invariant-loop-last l = (l.code ≡ l.left ++ drop (length l.left) l.code) × MemberMarks l.marks (drop (length l.left) l.code) (length l.left)

abbrev pub decreases-loop-last : goal.decreases-loop-last
decreases-loop-last l = length l.left
