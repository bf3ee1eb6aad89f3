-- What a run does with more steps, from which the second direction follows.
use Rattle.std.proofs.Common.{inl, inr, ℕ, zero, suc, ◌≤◌, List, [], ◌∷◌, ◌++◌, refl, sym, ◌∙◌, arith, append_assoc, append-nil}
use Rattle.behavior.specs.Meanings.{Event, Read, Write, Outcome, IsPrefix, ReachedBy}
use Rattle.spirv_words.specs.Step.{State, Setting, Turn, Goes, Reads, Writes, Ends, IsUndefined, IsStuck, step}
use Rattle.spirv_words.specs.Runs.{after, run}

prefix_on : (a : List Event) (e : Event) (b : List Event) → IsPrefix (a ++ e ∷ []) b → IsPrefix a b
prefix_on a e b h = (e ∷ h.0, sym (append_assoc a (e ∷ []) h.0) ∙ h.1)

-- a run only adds events
turn_extends : (t : Turn) (go : State → List ℕ → List Event → Outcome) → ((s : State) (answers : List ℕ) (events : List Event) → IsPrefix events (go s answers events).events) → (answers : List ℕ) (events : List Event) → IsPrefix events (after t go answers events).events
turn_extends (Goes s) go h answers events = h s answers events
turn_extends (Reads set binding index f) go h [] events = ([], append-nil events)
turn_extends (Reads set binding index f) go h (a ∷ answers) events = prefix_on events _ _ (h (f a) answers (events ++ Read set binding index a ∷ []))
turn_extends (Writes set binding index w s) go h answers events = prefix_on events _ _ (h s answers (events ++ Write set binding index w ∷ []))
turn_extends Ends go h answers events = ([], append-nil events)
turn_extends IsUndefined go h answers events = ([], append-nil events)
turn_extends IsStuck go h answers events = ([], append-nil events)

run_extends : (m : Setting) (n : ℕ) (s : State) (answers : List ℕ) (events : List Event) → IsPrefix events (run m n s answers events).events
run_extends m zero s answers events = ([], append-nil events)
run_extends m (suc n) s answers events = turn_extends (step m s) (run m n) (run_extends m n) answers events

turn_reached : (t : Turn) (f g : State → List ℕ → List Event → Outcome) → ((s : State) (answers : List ℕ) (events : List Event) → ReachedBy (f s answers events) (g s answers events)) → (answers : List ℕ) (events : List Event) → ReachedBy (after t f answers events) (after t g answers events)
turn_reached (Goes s) f g h answers events = h s answers events
turn_reached (Reads set binding index go) f g h [] events = inl refl
turn_reached (Reads set binding index go) f g h (a ∷ answers) events = h (go a) answers (events ++ Read set binding index a ∷ [])
turn_reached (Writes set binding index w s) f g h answers events = h s answers (events ++ Write set binding index w ∷ [])
turn_reached Ends f g h answers events = inl refl
turn_reached IsUndefined f g h answers events = inl refl
turn_reached IsStuck f g h answers events = inl refl

-- with more steps a run is the same, or has come further
pub longer : (m : Setting) (j k : ℕ) → j ≤ k → (s : State) (answers : List ℕ) (events : List Event) → ReachedBy (run m j s answers events) (run m k s answers events)
longer m zero k le s answers events = inr (refl, run_extends m k s answers events)
longer m (suc j) zero le s answers events = absurd (omega arith)
longer m (suc j) (suc k) le s answers events = turn_reached (step m s) (run m j) (run m k) (longer m j k (omega arith)) answers events
