-- A run from a typed state is never stuck.
use Rattle.std.proofs.Common.{◌≡◌, ℕ, zero, suc, List, [], ◌∷◌, ◌++◌}
use Rattle.behavior.specs.Meanings.{Event, Read, Write, Stuck, Outcome, Ids}
use Rattle.spirv_words.specs.declared.images.Instruction.{Instruction}
use Rattle.spirv_words.specs.Step.{State, Turn, Goes, Reads, Writes, Ends, IsUndefined, IsStuck, step}
use Rattle.spirv_words.specs.Runs.{setting, after, run}
use Rattle.typed_runs.specs.States.{IsTyped, Keeps}
use Rattle.typed_runs.proofs.Facts.{Facts}
use Rattle.typed_runs.proofs.Steps.{step_is_typed}

module _ (code : List Instruction) where
  goes_on : (turn : Turn) (go : State → List ℕ → List Event → Outcome) (answers : List ℕ) (events : List Event) → Keeps code turn
      → ((s : State) (answers : List ℕ) (events : List Event) → IsTyped code s → (go s answers events).ending ≡ Stuck → ⊥)
      → (after turn go answers events).ending ≡ Stuck → ⊥
  goes_on (Goes s) go answers events k h e = h s answers events k e
  goes_on (Reads set binding index f) go [] events k h e = cc
  goes_on (Reads set binding index f) go (a ∷ answers) events k h e = h (f a) answers (events ++ Read set binding index a ∷ []) (k a) e
  goes_on (Writes set binding index w s) go answers events k h e = h s answers (events ++ Write set binding index w ∷ []) k e
  goes_on Ends go answers events k h e = cc
  goes_on IsUndefined go answers events k h e = cc
  goes_on IsStuck go answers events k h e = k

  module _ (facts : Facts code) (ids : Ids) (lengths : ℕ → ℕ → ℕ) where
    pub unstuck : (n : ℕ) (s : State) (answers : List ℕ) (events : List Event) → IsTyped code s
        → (run (setting code ids lengths) n s answers events).ending ≡ Stuck → ⊥
    unstuck zero s answers events typed e = cc
    unstuck (suc n) s answers events typed e =
        goes_on (step (setting code ids lengths) s) (run (setting code ids lengths) n) answers events (step_is_typed code facts ids lengths s typed)
        (λ s a v t x. unstuck n s a v t x) e
