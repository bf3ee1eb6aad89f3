use Rattle.std.proofs.Common.{◌≡◌, ◌+◌, ◌++◌, drop}
use Rattle.run_plans.specs.Ground.{rooms_of}
use Rattle.run_plans.specs.Actions.{passed}
use Rattle.run_plans.proofs.calls.passed.Given as goal

abbrev pub invariant-loop-argument : goal.invariant-loop-argument
invariant-loop-argument l =
    (l.parts.items ++ passed l.places.places.code (rooms_of l.places) (drop l.argument-index l.arguments) l.at
    ≡ passed l.places.places.code (rooms_of l.places) l.arguments l.place) × (l.at ≡ l.place + l.argument-index)
