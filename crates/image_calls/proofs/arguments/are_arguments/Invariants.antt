use Rattle.std.proofs.Common.{◌≡◌, drop}
use Rattle.image_calls.specs.Arguments.{are_arguments}
use Rattle.image_calls.proofs.arguments.are_arguments.Given as goal

-- the arguments so far are right
abbrev pub invariant-loop-at : goal.invariant-loop-at
invariant-loop-at l = are_arguments l.definitions (drop l.at l.types) (drop l.at l.values) ≡ are_arguments l.definitions l.types l.values
