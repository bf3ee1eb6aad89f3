use Rattle.std.proofs.Common.{◌≡◌, ℕ, ◌<◌}
use Rattle.image_calls.specs.Calls.{inside_at, HasWrongCall}
use Rattle.image_calls.proofs.checking.first_wrong.Given as goal

abbrev pub invariant-loop-number : goal.invariant-loop-number
invariant-loop-number l = (l.inside ≡ inside_at l.code l.number) × ((k : ℕ) → k < l.number → HasWrongCall l.code k → ⊥)
