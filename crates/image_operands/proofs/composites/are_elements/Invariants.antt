use Rattle.std.proofs.Common.{◌≡◌, take, true}
use Rattle.std.specs.List.{list_all}
use Rattle.image_declarations.specs.Holdings.{has_type}
use Rattle.image_operands.proofs.composites.are_elements.Given as goal

abbrev pub invariant-loop-value : goal.invariant-loop-value
invariant-loop-value l = list_all (λ v. has_type l.image v l.of) (take l.value-index l.values) ≡ true
