use Rattle.std.proofs.Common.{◌≡◌, drop}
use Rattle.image_operands.specs.Memory.{chain_end}
use Rattle.run_plans.specs.Ground.{rooms_of}
use Rattle.run_plans.specs.Steps.{HasWalked}
use Rattle.run_plans.proofs.chains.walk_along.Given as goal

abbrev pub invariant-loop-id : goal.invariant-loop-id
invariant-loop-id l =
    HasWalked l.places.places.code (rooms_of l.places) l.in_buffer l.type_id l.indices l.offset l.steps.items l.at (drop l.id-index l.indices)
    × (chain_end l.places.places.code l.at (drop l.id-index l.indices) ≡ chain_end l.places.places.code l.type_id l.indices)
