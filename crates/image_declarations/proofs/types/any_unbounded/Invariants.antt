use Rattle.std.proofs.Common.{◌≡◌, take, false}
use Rattle.std.specs.List.{list_any}
use Rattle.image_declarations.specs.Types.{known_by}
use Rattle.image_declarations.proofs.types.any_unbounded.Given as goal

abbrev pub invariant-loop-member : goal.invariant-loop-member
invariant-loop-member l = list_any (λ t. (known_by l.known t).unbounded) (take l.member-index l.members) ≡ false
