-- What a runner holds, and the states that it stands for.
use Rattle.std.specs.Prelude.{◌≡◌, ℕ, ◌<◌, ◌≤◌, ◌^◌, Bool, true, List, length, Some, slice_get}
use Rattle.spirv_words.specs.declared.images.Instruction.{Instruction}
use Rattle.spirv_words.specs.declared.images.Image.{Image}
use Rattle.spirv_words.specs.Step.{State, Turn as Step, Goes, Reads, Writes, Ends, IsUndefined, IsStuck}
use Rattle.image_operands.specs.Marks.{is_buffer}
use Rattle.spirv_check.specs.Valid.{Valid}
use Rattle.run_buffers.specs.declared.buffer.Buffer.{Buffer}
use Rattle.run_buffers.specs.declared.ids.Ids.{Ids}
use Rattle.run_buffers.specs.Memory.{words_of}
use Rattle.run_rooms.specs.Rooms.{Rooms}
use Rattle.run_plans.specs.declared.base.Bound.{Bound}
use Rattle.run_plans.specs.declared.plan.Plan.{Plan}
use Rattle.run_plans.specs.Plans.{set_of, binding_of, needs}
use Rattle.run_plans.specs.Whole.{IsPlan}
use Rattle.run_laws.specs.Together.{Together}
use Rattle.spirv_run.specs.declared.turns.Turn.{Turn}
use Rattle.spirv_run.specs.declared.turns.Turn.TheVariants.{Going, Ended, Undefined}
use Rattle.spirv_run.specs.Shared.{lengths_in, put_word, built_ins_of}

-- an image with what it is run by, the place of the next instruction, and the words of the run; the buffers' positions and
-- numbers of words, once they were looked up
pub record Machine : Type 0 where
  pub image : Image
  pub plan : Plan
  pub place : ℕ
  pub words : List ℕ
  pub positions : List ℕ
  pub counts : List ℕ
  pub is_bound : Bool

abbrev pub image_of : Machine → Image
image_of m = m.image

-- the machine at another place with other words
abbrev pub moved_to : Machine → ℕ → List ℕ → Machine
moved_to m place words = record { image = m.image; plan = m.plan; place = place; words = words; positions = m.positions; counts = m.counts; is_bound = m.is_bound }

-- the machine with the positions of buffers and their numbers of words
abbrev pub looked_up : Machine → List ℕ → List ℕ → Bool → Machine
looked_up m positions counts is_bound =
    record { image = m.image; plan = m.plan; place = m.place; words = m.words; positions = positions; counts = counts; is_bound = is_bound }

-- a machine is made for a valid image
pub record IsMachine (image : Image) (plan : Plan) (words positions counts : List ℕ) : Type 0 where
  pub valid : Valid image
  pub rooms : Rooms
  pub is_plan : IsPlan image.instructions rooms plan
  pub as_many : length words ≡ length plan.words.items
  pub positions_as_many : length positions ≡ length plan.buffers
  pub counts_as_many : length counts ≡ length plan.buffers

-- each buffer of the image has as many words as it needs, and no more than can be counted
pub record AreEnough (code : List Instruction) (lengths : ℕ → ℕ → ℕ) : Type 0 where
  pub enough : (x : ℕ) → is_buffer code x ≡ true → needs code x ≤ lengths (set_of code x) (binding_of code x)
  pub small : (x : ℕ) → is_buffer code x ≡ true → lengths (set_of code x) (binding_of code x) < 2 ^ 32

-- the counts are those of the plan's buffers, in their order
abbrev pub AreCounts : List Bound → (ℕ → ℕ → ℕ) → List ℕ → Type 0
AreCounts bounds lengths counts = (n : ℕ) (b : Bound) → slice_get bounds n ≡ Some b → slice_get counts n ≡ Some (lengths b.set b.binding)

-- the machine stands where an invocation has come to this state, on buffers of so many words
pub record At (m : Machine) (ids : Ids) (lengths : ℕ → ℕ → ℕ) (s : State) : Type 0 where
  pub valid : Valid m.image
  pub rooms : Rooms
  pub is_plan : IsPlan m.image.instructions rooms m.plan
  pub enough : AreEnough m.image.instructions lengths
  pub counted : m.is_bound ≡ true → AreCounts m.plan.buffers lengths m.counts
  pub together : Together m.image.instructions rooms (built_ins_of ids) lengths s m.place m.words

-- a memory has so many words
abbrev pub AreLengths : (ℕ → ℕ → ℕ) → List Buffer → Type 0
AreLengths lengths memory = (set binding : ℕ) → lengths_in memory set binding ≡ lengths set binding

-- a word was read, and the machine goes on with it
pub record HasRead (m : Machine) (ids : Ids) (lengths : ℕ → ℕ → ℕ) (set binding index : ℕ) (go : ℕ → State) (before : List Buffer) : Type 0 where
  pub word : ℕ
  pub there : slice_get (words_of before set binding) index ≡ Some word
  pub goes_on : At m ids lengths (go word)

-- what a step of the image does, the machine did
abbrev pub HasDone : Step → Machine → Ids → (ℕ → ℕ → ℕ) → Turn → List Buffer → List Buffer → Type 0
HasDone (Goes s) m ids lengths turn before after = (turn ≡ Going) × At m ids lengths s × (after ≡ before)
HasDone (Reads set binding index go) m ids lengths turn before after = (turn ≡ Going) × HasRead m ids lengths set binding index go before × (after ≡ before)
HasDone (Writes set binding index word s) m ids lengths turn before after = (turn ≡ Going) × At m ids lengths s × (after ≡ put_word before set binding index word)
HasDone Ends m ids lengths turn before after = (turn ≡ Ended) × (after ≡ before)
HasDone IsUndefined m ids lengths turn before after = (turn ≡ Undefined) × (after ≡ before)
HasDone IsStuck m ids lengths turn before after = ⊥
