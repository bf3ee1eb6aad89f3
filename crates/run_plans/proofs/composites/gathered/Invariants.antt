use Rattle.std.proofs.Common.{◌≡◌, ◌+◌, ◌++◌, drop}
use Rattle.run_plans.specs.Acted.{sizes}
use Rattle.run_plans.specs.Ground.{rooms_of}
use Rattle.run_plans.specs.Actions.{gathered}
use Rattle.run_plans.proofs.composites.gathered.Given as goal

abbrev pub invariant-loop-value : goal.invariant-loop-value
invariant-loop-value l =
    (l.parts.items ++ gathered l.places.places.code (rooms_of l.places) (drop l.value-index l.values) l.at
    ≡ gathered l.places.places.code (rooms_of l.places) l.values l.to)
    × (l.at + sizes l.places.places.code (drop l.value-index l.values) ≡ l.to + sizes l.places.places.code l.values)
