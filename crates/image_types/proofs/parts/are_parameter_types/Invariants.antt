use Rattle.std.proofs.Common.{◌≡◌, take, true}
use Rattle.std.specs.List.{list_all}
use Rattle.image_types.specs.Parts.{is_parameter_type}
use Rattle.image_types.proofs.parts.are_parameter_types.Given as goal

abbrev pub invariant-loop-of : goal.invariant-loop-of
invariant-loop-of l = list_all (λ t. is_parameter_type l.image t) (take l.of-index l.types) ≡ true
