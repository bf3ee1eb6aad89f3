use Rattle.std.proofs.Common.{◌≡◌}
use Rattle.image_places.specs.Places.{function_of}
use Rattle.run_plans.specs.Ground.{rooms_of}
use Rattle.run_plans.proofs.Acting.{AreFirst}
use Rattle.run_plans.proofs.actions.actions_of.Given as goal

abbrev pub invariant-loop-number : goal.invariant-loop-number
invariant-loop-number l =
    (l.function ≡ function_of l.places.places.code l.number) × AreFirst l.places.places.code (rooms_of l.places) l.number l.actions.items
