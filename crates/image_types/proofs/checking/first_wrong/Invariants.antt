use Rattle.std.proofs.Common.{◌≡◌, ℕ, ◌<◌, ◌≤◌, take, false}
use Rattle.std.specs.HashSet.{contains}
use Rattle.image_declarations.specs.Decorations.{same_pair}
use Rattle.image_operands.specs.Marks.{is_taken}
use Rattle.image_types.specs.Checking.{context_at, has_wrong_types}
use Rattle.image_types.proofs.checking.first_wrong.Given as goal

-- what the instruction stands in, the pairs that were completed, and that nothing is wrong so far
abbrev pub invariant-loop-place : goal.invariant-loop-place
invariant-loop-place l =
    (l.context ≡ context_at l.code l.place)
    × (l.context.parameters ≤ l.place)
    × ((q : ℕ × ℕ) → contains same_pair l.pairs q ≡ is_taken l.code (take l.place l.code) 0 q)
    × ((k : ℕ) → k < l.place → has_wrong_types l.code k ≡ false)
