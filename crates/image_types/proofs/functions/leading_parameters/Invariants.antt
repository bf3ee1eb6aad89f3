use Rattle.std.proofs.Common.{◌≡◌, ◌+◌, drop}
use Rattle.image_types.specs.Functions.{leading_parameters}
use Rattle.image_types.proofs.functions.leading_parameters.Given as goal

abbrev pub invariant-loop-count : goal.invariant-loop-count
invariant-loop-count l = leading_parameters l.code ≡ l.count + leading_parameters (drop l.count l.code)
