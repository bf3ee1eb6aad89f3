use Rattle.std.proofs.Common.{◌≡◌, take, true}
use Rattle.std.specs.List.{list_all}
use Rattle.image_declarations.specs.Types.{known_by}
use Rattle.image_declarations.proofs.types.all_data.Given as goal

abbrev pub invariant-loop-member : goal.invariant-loop-member
invariant-loop-member l = list_all (λ t. (known_by l.known t).is_data) (take l.member-index l.members) ≡ true
