-- The two machines go together: the one on values, and the one on words.
use Rattle.std.specs.Prelude.{◌≡◌, ℕ, suc, ◌*◌, ◌^◌, ◌<◌, ◌≤◌, true, List, [], ◌∷◌, length, Option, Some, slice_get, replicate}
use Rattle.std.specs.List.{AllByRecursion}
use Rattle.behavior.specs.Values.{Value}
use Rattle.behavior.specs.Meanings.{Ids}
use Rattle.spirv_words.specs.declared.images.Instruction.{Instruction}
use Rattle.spirv_words.specs.declared.images.Image.{Image}
use Rattle.spirv_words.specs.Step.{State, Turn, Goes, Reads, Writes, Ends, IsUndefined, IsStuck, step}
use Rattle.spirv_words.specs.Runs.{setting, start, start_place, built_ins}
use Rattle.flat_values.specs.Flat.{flat}
use Rattle.flat_values.specs.Ranges.{Stands, written, cleared}
use Rattle.run_actions.specs.declared.actions.Action.{Action}
use Rattle.run_actions.specs.Steps.{FlatTurn, Goes as GoesTo, Reads as ReadsWord, Writes as WritesWord, Ends as EndsHere, IsUndefined as IsUndefinedHere, IsStuck as IsStuckHere, flat_step}
use Rattle.image_operands.specs.Marks.{is_buffer}
use Rattle.image_places.specs.Places.{function_of}
use Rattle.image_facts.specs.Operands.{is_built_in}
use Rattle.spirv_check.specs.Valid.{Valid}
use Rattle.typed_runs.specs.States.{IsTyped}
use Rattle.run_rooms.specs.Rooms.{Rooms, AreRooms}
use Rattle.run_plans.specs.Plans.{IsSteady, AreActions, AreBuffers, set_of, binding_of, needs}
use Rattle.run_laws.specs.Laid.{AreLaid, AreKept, AreStored}

abbrev pub IsWord : ℕ → Type 0
IsWord w = w < 2 ^ 32

-- a valid image, with rooms for it and the actions of its instructions
pub record IsPlanned (image : Image) (L : Rooms) (actions : List Action) : Type 0 where
  pub valid : Valid image
  pub rooms : AreRooms image.instructions L
  pub are : AreActions image.instructions L actions
  pub buffers : AreBuffers image.instructions L.buffers

-- so many words by the numbers of the buffers, each of which has as many as it needs
pub record HaveLengths (code : List Instruction) (L : Rooms) (lengths : ℕ → ℕ → ℕ) (counts : List ℕ) : Type 0 where
  pub as_many : length counts ≡ length L.buffers
  pub each : (n : ℕ) (pair : ℕ × ℕ) → slice_get L.buffers n ≡ Some pair → slice_get counts n ≡ Some (lengths pair.0 pair.1)
  pub enough : (x : ℕ) → is_buffer code x ≡ true → needs code x ≤ lengths (set_of code x) (binding_of code x)
  pub words : AllByRecursion IsWord counts

-- the built-in values stand where they are looked for
abbrev pub AreGiven : Rooms → Ids → List ℕ → Type 0
AreGiven L ids ws = (b : ℕ) (v : Value) → built_ins ids b ≡ Some v → Stands (flat v) (L.input b) ws

-- the words hold the state
pub record Together (code : List Instruction) (L : Rooms) (ids : Ids) (lengths : ℕ → ℕ → ℕ) (s : State) (place : ℕ) (ws : List ℕ) : Type 0 where
  pub same : place ≡ s.place
  pub typed : IsTyped code s
  pub steady : IsSteady code L ws
  pub given : AreGiven L ids ws
  pub laid : AreLaid code L lengths s.place s.below s.ids ws
  pub kept : AreKept code L lengths s.place s.below ws
  pub stored : AreStored code L s.place s.below s.memory ws

-- what a step on values does, a step on words does. A word of a buffer is read and written where it is.
abbrev pub Follows : List Instruction → Rooms → Ids → (ℕ → ℕ → ℕ) → ℕ → List ℕ → Turn → FlatTurn → Type 0
Follows code L ids lengths place ws (Goes s) (GoesTo q now) = Together code L ids lengths s q now
Follows code L ids lengths place ws (Reads set binding index go) (ReadsWord n i to) =
    (slice_get L.buffers n ≡ Some (set, binding)) × (i ≡ index) × (index < lengths set binding) × (to < length ws)
    × ((w : ℕ) → IsWord w → Together code L ids lengths (go w) (suc place) (written ws to (w ∷ [])))
Follows code L ids lengths place ws (Writes set binding index w s) (WritesWord n i v) =
    (slice_get L.buffers n ≡ Some (set, binding)) × (i ≡ index) × (index < lengths set binding) × (v ≡ w)
    × Together code L ids lengths s (suc place) ws
Follows code L ids lengths place ws Ends EndsHere = Unit {0}
Follows code L ids lengths place ws IsUndefined IsUndefinedHere = Unit {0}
Follows code L ids lengths place ws turn flat = ⊥

-- ---- what is shown

abbrev pub StepsTogether : Type 0
StepsTogether = (image : Image) (L : Rooms) (actions : List Action) (ids : Ids) (lengths : ℕ → ℕ → ℕ) (counts : List ℕ) (s : State) (place : ℕ) (ws : List ℕ)
    → IsPlanned image L actions → HaveLengths image.instructions L lengths counts → AllByRecursion IsWord ws
    → Together image.instructions L ids lengths s place ws
    → Follows image.instructions L ids lengths place ws (step (setting image.instructions ids lengths) s) (flat_step actions counts place ws)

-- a run begins at the entry, with the built-in values where they are looked for and zeros where the entry's variables stand
abbrev pub BeginTogether : Type 0
BeginTogether = (image : Image) (L : Rooms) (actions : List Action) (ids : Ids) (lengths : ℕ → ℕ → ℕ) (counts : List ℕ) (ws : List ℕ)
    → IsPlanned image L actions → HaveLengths image.instructions L lengths counts → IsSteady image.instructions L ws → AreGiven L ids ws
    → let function = start_place image.instructions in
    Stands (replicate (L.rooms_count function) 0) (L.rooms function) ws
    → Together image.instructions L ids lengths (start (setting image.instructions ids lengths)) (start_place image.instructions) ws
