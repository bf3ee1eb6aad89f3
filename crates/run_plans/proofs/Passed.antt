-- Arguments that are passed to parameters.
use Rattle.std.proofs.Common.{◌≡◌, ℕ, ◌+◌, List, [], ◌∷◌, Option, Some, None, slice_get, refl, ap}
use Rattle.spirv_words.specs.declared.images.Instruction.{Instruction}
use Rattle.spirv_words.specs.Machine.{second_of, if_some}
use Rattle.run_actions.specs.declared.actions.Move.{Move}
use Rattle.run_rooms.specs.Rooms.{Rooms, slot_size}
use Rattle.run_plans.specs.Actions.{passed}
use Rattle.run_plans.specs.Calls.{given_at}

-- nothing is passed where no parameter stands
pub passed_ends : (code : List Instruction) (L : Rooms) (x : ℕ) (xs : List ℕ) (place : ℕ) → given_at code place ≡ None → passed code L (x ∷ xs) place ≡ []
passed_ends code L x xs place e = by_instruction (slice_get code place) e
  where
    go : ℕ → List Move
    go r = record { from = L.slot x; to = L.slot r; count = slot_size code x } ∷ passed code L xs (place + 1)

    by_instruction : (o : Option Instruction) → if_some o None (λ i. second_of i.operands) ≡ None
        → if_some o [] (λ i. if_some (second_of i.operands) [] go) ≡ []
    by_instruction None e = refl
    by_instruction (Some i) e = ap (λ (o : Option ℕ). if_some o [] go) e
