use Rattle.std.proofs.Common.{◌≡◌, drop}
use Rattle.image_operands.specs.Composites.{are_members}
use Rattle.image_operands.proofs.composites.are_members.Given as goal

-- the members so far are right
abbrev pub invariant-loop-at : goal.invariant-loop-at
invariant-loop-at l = are_members l.image (drop l.at l.types) (drop l.at l.values) ≡ are_members l.image l.types l.values
