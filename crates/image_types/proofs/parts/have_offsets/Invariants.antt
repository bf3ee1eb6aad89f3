use Rattle.std.proofs.Common.{◌≡◌, true}
use Rattle.image_types.specs.Parts.{have_offsets}
use Rattle.image_types.proofs.parts.have_offsets.Given as goal

abbrev pub invariant-loop-member : goal.invariant-loop-member
invariant-loop-member l = have_offsets l.image l.id l.member ≡ true
