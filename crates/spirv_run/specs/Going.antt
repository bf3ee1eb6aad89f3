-- How the invocations of a dispatch go: private contracts.
use Rattle.std.specs.Prelude.{◌≡◌, ℕ, ◌+◌, ◌≤◌, true, List, [], ◌++◌, length}
use Rattle.behavior.specs.Meanings.{Event, Done, Out, Undefined as IsUndefined}
use Rattle.spirv_words.specs.declared.images.Image.{Image}
use Rattle.spirv_words.specs.Step.{State, Setting}
use Rattle.spirv_words.specs.Runs.{setting, start, run}
use Rattle.run_buffers.specs.declared.buffer.Buffer.{Buffer}
use Rattle.run_buffers.specs.declared.ids.Ids.{Ids}
use Rattle.spirv_run.specs.declared.finish.Finish.{Finish}
use Rattle.spirv_run.specs.declared.finish.Finish.TheVariants.{Ended, Undefined, Unfinished}
use Rattle.spirv_run.specs.Shared.{lengths_in, Play, built_ins_of, Within, EndsAt}
use Rattle.spirv_run.specs.Dispatch.{HasAll}
use Rattle.spirv_run.specs.Machines.{Machine, At, AreLengths}
use Rattle.spirv_run.specs.Parts.{AreBound}

-- the buffers were looked up, and none is missing
pub record IsReady (m : Machine) (memory : List Buffer) : Type 0 where
  pub bound : m.is_bound ≡ true
  pub counts : AreBound m.plan.buffers memory m.counts
  pub all : HasAll m.image.instructions memory

-- after so many steps an invocation has come to a state, and has left a memory
pub record Came (m : Setting) (before : List Buffer) (steps : ℕ) (s : State) (now : List Buffer) : Type 0 where
  pub answers : List ℕ
  pub events : List Event
  pub few : length answers ≤ steps
  pub goes_on : (n : ℕ) (rest : List ℕ) → run m (steps + n) (start m) (answers ++ rest) [] ≡ run m n s rest events
  pub plays : Play events before now

-- an invocation on a memory is under way
pub record IsUnderWay (image : Image) (ids : Ids) (before : List Buffer) (steps : ℕ) (m : Machine) (now : List Buffer) : Type 0 where
  pub same : m.image ≡ image
  pub ready : IsReady m now
  pub are : AreLengths (lengths_in before) now
  pub state : State
  pub at : At m ids (lengths_in before) state
  pub came : Came (setting m.image.instructions (built_ins_of ids) (lengths_in before)) before steps state now

-- how an invocation ended within its steps
abbrev pub HasFinished : Image → Ids → ℕ → List Buffer → Finish → List Buffer → Type 0
HasFinished image ids steps before (Ended step) after = (step ≤ steps) × EndsAt image ids before step after Done
HasFinished image ids steps before (Undefined step) after = (step ≤ steps) × EndsAt image ids before step after IsUndefined
HasFinished image ids steps before Unfinished after = Within image ids before steps after Out
