use Rattle.std.proofs.Common.{◌≡◌, take, true}
use Rattle.std.specs.List.{list_all}
use Rattle.image_types.specs.Parts.{may_be_member}
use Rattle.image_types.proofs.parts.may_be_members.Given as goal

abbrev pub invariant-loop-member : goal.invariant-loop-member
invariant-loop-member l = list_all (λ t. may_be_member l.image l.wraps t) (take l.member-index l.members) ≡ true
