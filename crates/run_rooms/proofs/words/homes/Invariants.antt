use Rattle.std.proofs.Common.{◌≡◌}
use Rattle.image_places.specs.Places.{function_of}
use Rattle.run_rooms.specs.Layout.{IsTable}
use Rattle.run_rooms.proofs.words.homes.Given as goal

abbrev pub invariant-loop-number : goal.invariant-loop-number
invariant-loop-number l = IsTable (function_of l.code) l.number l.homes.items × (l.function ≡ function_of l.code l.number)
