-- How the parts of a runner do theirs: private contracts.
use Rattle.std.specs.Prelude.{◌≡◌, ◌≢◌, ◌⊎◌, ℕ, suc, ◌+◌, ◌<◌, ◌≤◌, ◌^◌, List, [], ◌∷◌, length, Some, slice_get, slice_index}
use Rattle.flat_values.specs.Ranges.{written, cleared}
use Rattle.run_actions.specs.Steps.{FlatTurn, Goes, Reads, Writes, Ends, IsUndefined, IsStuck}
use Rattle.run_buffers.specs.declared.buffer.Buffer.{Buffer}
use Rattle.run_buffers.specs.declared.ids.Ids.{Ids}
use Rattle.run_buffers.specs.Memory.{slots, words_of}
use Rattle.run_plans.specs.declared.base.Bound.{Bound}
use Rattle.run_plans.specs.declared.plan.Plan.{Plan}
use Rattle.spirv_run.specs.declared.turns.Turn.{Turn}
use Rattle.spirv_run.specs.declared.turns.Turn.TheVariants.{Going, Ended, Undefined}
use Rattle.spirv_run.specs.Shared.{lengths_in, put_word}

-- a buffer of the memory stands at a position
abbrev pub StandsAt : List Buffer → Bound → ℕ → Type 0
StandsAt memory b position = slice_get (slots memory) position ≡ Some (b.set, b.binding)

-- the memory has no such buffer, or one with too few words
abbrev pub IsShort : List Buffer → Bound → Type 0
IsShort memory b = ((position : ℕ) → slice_get (slots memory) position ≢ Some (b.set, b.binding)) ⊎ (lengths_in memory b.set b.binding < b.words)

-- ---- a step

-- a word was read, and was put into the words of the run
pub record IsRead (memory : List Buffer) (b : Bound) (index to : ℕ) (words now : List ℕ) : Type 0 where
  pub word : ℕ
  pub small : word < 2 ^ 32
  pub there : slice_get (words_of memory b.set b.binding) index ≡ Some word
  pub put : now ≡ written words to (word ∷ [])

-- what a step on words asks for was done: the turn, the place and the words after it, and the memory that is left
abbrev pub IsMoved : List Bound → FlatTurn → ℕ → List ℕ → List Buffer → Turn → ℕ → List ℕ → List Buffer → Type 0
IsMoved bounds (Goes place ws) at words before turn next now after = (turn ≡ Going) × (next ≡ place) × (now ≡ ws) × (after ≡ before)
IsMoved bounds (Reads n index to) at words before turn next now after =
    (b : Bound) (position : ℕ) → slice_get bounds n ≡ Some b → StandsAt before b position → index < lengths_in before b.set b.binding → to < length words
    → (turn ≡ Going) × (next ≡ suc at) × IsRead before b index to words now × (after ≡ before)
IsMoved bounds (Writes n index word) at words before turn next now after =
    (b : Bound) (position : ℕ) → slice_get bounds n ≡ Some b → StandsAt before b position
    → (turn ≡ Going) × (next ≡ suc at) × (now ≡ words) × (after ≡ put_word before b.set b.binding index word)
IsMoved bounds Ends at words before turn next now after = (turn ≡ Ended) × (after ≡ before)
IsMoved bounds IsUndefined at words before turn next now after = (turn ≡ Undefined) × (after ≡ before)
IsMoved bounds IsStuck at words before turn next now after = Unit {0}

-- ---- buffers that are looked up

-- each buffer is there with enough words, and its words were counted
abbrev pub AreBound : List Bound → List Buffer → List ℕ → Type 0
AreBound bounds memory counts = (n : ℕ) (b : Bound) → slice_get bounds n ≡ Some b
    → (IsShort memory b → ⊥) × (slice_get counts n ≡ Some (lengths_in memory b.set b.binding)) × (lengths_in memory b.set b.binding < 2 ^ 32)

-- the first buffer that is not there, or has too few words
pub record IsFirstShort (bounds : List Bound) (memory : List Buffer) (b : Bound) : Type 0 where
  pub number : ℕ
  pub stands : slice_get bounds number ≡ Some b
  pub short : IsShort memory b
  pub first : (n : ℕ) (a : Bound) → n < number → slice_get bounds n ≡ Some a → IsShort memory a → ⊥

-- ---- the beginning of an invocation

-- three numbers each
pub record HasThree (ids : Ids) : Type 0 where
  pub group : length ids.group ≡ 3
  pub local : length ids.local ≡ 3
  pub global : length ids.global ≡ 3

-- the built-in values have room in so many words
pub record HaveRoom (plan : Plan) (count : ℕ) : Type 0 where
  pub variables : plan.first + plan.count ≤ count
  pub group : slice_index plan.inputs 0 + 3 ≤ count
  pub local : slice_index plan.inputs 1 + 3 ≤ count
  pub global : slice_index plan.inputs 2 + 3 ≤ count
  pub index : slice_index plan.inputs 3 + 1 ≤ count

-- the words with which an invocation begins: zeros for the entry's variables, and the built-in values
abbrev pub begun : Plan → Ids → List ℕ
begun plan ids =
    let zeros = cleared plan.words.items plan.first plan.count in
    let first = written zeros (slice_index plan.inputs 0) ids.group in
    let second = written first (slice_index plan.inputs 1) ids.local in
    let third = written second (slice_index plan.inputs 2) ids.global in
    written third (slice_index plan.inputs 3) (ids.index ∷ [])
