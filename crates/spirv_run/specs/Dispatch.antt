-- What a dispatch is: the invocations of an image one after another, each on the memory that the one before left.
use Rattle.std.specs.Prelude.{◌≡◌, ◌≢◌, ◌⊎◌, ℕ, zero, suc, ◌+◌, ◌*◌, ◌<◌, ◌≤◌, true, List, Some, Result, Ok, Err, slice_get}
use Rattle.behavior.specs.Meanings.{Done, Out, Undefined as IsUndefined}
use Rattle.slang_names.specs.declared.faults.RunCause.TheVariants.{NoEntry, DispatchLimit, BufferMissing}
use Rattle.spirv_words.specs.declared.images.Instruction.{Instruction}
use Rattle.spirv_words.specs.declared.images.Image.{Image}
use Rattle.run_buffers.specs.declared.buffer.Buffer.{Buffer}
use Rattle.run_buffers.specs.declared.faults.RunFault.{RunFault}
use Rattle.run_buffers.specs.declared.faults.RunFault.TheVariants.{Refused, Undefined, Budget, Memory}
use Rattle.run_buffers.specs.declared.ids.Ids.{Ids}
use Rattle.run_buffers.specs.Invocations.{volume, ids_of}
use Rattle.run_buffers.specs.Memory.{slots}
use Rattle.image_operands.specs.Marks.{is_buffer}
use Rattle.spirv_check.specs.Entry.{entry_name, group_size}
use Rattle.run_plans.specs.Plans.{set_of, binding_of, needs}
use Rattle.spirv_run.specs.declared.ran.Ran.{Ran}
use Rattle.spirv_run.specs.Shared.{lengths_in, Within, EndsAt}

-- ---- the buffers that an image asks for

-- the image has a buffer with this set and binding, and the memory has none, or one with too few words
pub record Missing (code : List Instruction) (memory : List Buffer) (set binding : ℕ) : Type 0 where
  pub variable : ℕ
  pub is : is_buffer code variable ≡ true
  pub set_is : set_of code variable ≡ set
  pub binding_is : binding_of code variable ≡ binding
  pub lacks : ((position : ℕ) → slice_get (slots memory) position ≢ Some (set, binding)) ⊎ (lengths_in memory set binding < needs code variable)

-- the first one, by set and then by binding
pub record FirstMissing (code : List Instruction) (memory : List Buffer) (set binding : ℕ) : Type 0 where
  pub missing : Missing code memory set binding
  pub first : (s b : ℕ) → Missing code memory s b → (s < set) ⊎ ((s ≡ set) × (b < binding)) → ⊥

abbrev pub HasAll : List Instruction → List Buffer → Type 0
HasAll code memory = (set binding : ℕ) → Missing code memory set binding → ⊥

-- ---- invocations

-- after earlier invocations, which left a memory and took so many steps, one more is done
pub record OneMore (image : Image) (ids : Ids) (steps : ℕ) (Earlier : List Buffer → ℕ → Type 0) (after : List Buffer) (total : ℕ) : Type 0 where
  pub between : List Buffer
  pub so_far : ℕ
  pub earlier : Earlier between so_far
  pub step : ℕ
  pub within : step ≤ steps
  pub done : EndsAt image ids between step after Done
  pub sum : total ≡ so_far + step

module _ (image : Image) (size groups : List ℕ) (steps : ℕ) where
  -- the first so many invocations are done, each within the steps that it may take; together they took so many
  abbrev pub AreDone : ℕ → List Buffer → List Buffer → ℕ → Type 0
  AreDone zero before after total = (after ≡ before) × (total ≡ 0)
  AreDone (suc n) before after total = OneMore image (ids_of size groups n) steps (AreDone n before) after total

-- the invocations before this one are done, and it does what is undefined with this step
pub record FirstUndefined (image : Image) (size groups : List ℕ) (steps : ℕ) (n step : ℕ) (before after : List Buffer) : Type 0 where
  pub between : List Buffer
  pub so_far : ℕ
  pub earlier : AreDone image size groups steps n before between so_far
  pub within : step ≤ steps
  pub stops : EndsAt image (ids_of size groups n) between step after IsUndefined

-- the invocations before this one are done, and it has not ended after its steps
pub record FirstUnfinished (image : Image) (size groups : List ℕ) (steps : ℕ) (n : ℕ) (before after : List Buffer) : Type 0 where
  pub between : List Buffer
  pub so_far : ℕ
  pub earlier : AreDone image size groups steps n before between so_far
  pub unfinished : Within image (ids_of size groups n) between steps after Out

-- what so many invocations answer, and the memory that they leave
abbrev pub IsRun : Image → List ℕ → List ℕ → ℕ → ℕ → List Buffer → Result Ran RunFault → List Buffer → Type 0
IsRun image size groups steps count before (Ok ran) after = (ran.invocations ≡ count) × AreDone image size groups steps count before after ran.steps
IsRun image size groups steps count before (Err (Undefined n step)) after = (n < count) × FirstUndefined image size groups steps n step before after
IsRun image size groups steps count before (Err (Budget n)) after = (n < count) × FirstUnfinished image size groups steps n before after
IsRun image size groups steps count before (Err (Refused cause)) after = ⊥
IsRun image size groups steps count before (Err (Memory e)) after = ⊥

-- ---- a dispatch

-- how many invocations so many groups have
abbrev pub product : List Instruction → List ℕ → ℕ
product code groups = volume groups * volume (group_size code)

-- what a dispatch answers, and the memory that it leaves
pub data IsDispatch (image : Image) (entry groups : List ℕ) (steps : ℕ) (before : List Buffer) (answer : Result Ran RunFault) (after : List Buffer) : Type 0 where
  OtherEntry : entry ≢ entry_name image.instructions
      → answer ≡ Err (Refused NoEntry) → after ≡ before → IsDispatch image entry groups steps before answer after
  TooMany : entry ≡ entry_name image.instructions → 65536 < product image.instructions groups
      → answer ≡ Err (Refused (DispatchLimit (product image.instructions groups))) → after ≡ before
      → IsDispatch image entry groups steps before answer after
  Lacking : (set binding : ℕ) → entry ≡ entry_name image.instructions → product image.instructions groups ≤ 65536
      → FirstMissing image.instructions before set binding
      → answer ≡ Err (Refused (BufferMissing set binding)) → after ≡ before → IsDispatch image entry groups steps before answer after
  Runs : entry ≡ entry_name image.instructions → product image.instructions groups ≤ 65536 → HasAll image.instructions before
      → IsRun image (group_size image.instructions) groups steps (product image.instructions groups) before answer after
      → IsDispatch image entry groups steps before answer after

-- ---- answers

abbrev pub HasRun : Result Ran RunFault → Type 0
HasRun (Ok ran) = Unit {0}
HasRun (Err fault) = ⊥

abbrev pub IsNoWant : Result Ran RunFault → Type 0
IsNoWant (Ok ran) = Unit {0}
IsNoWant (Err (Refused cause)) = Unit {0}
IsNoWant (Err (Undefined n step)) = Unit {0}
IsNoWant (Err (Budget n)) = Unit {0}
IsNoWant (Err (Memory e)) = ⊥
