use Rattle.std.proofs.Common.{◌≡◌, drop}
use Rattle.image_operands.specs.Composites.{extract_end}
use Rattle.image_operands.proofs.composites.extract_end.Given as goal

abbrev pub invariant-loop-number : goal.invariant-loop-number
invariant-loop-number l = extract_end l.image l.at (drop l.number-index l.path) ≡ extract_end l.image l.type_id l.path
