-- What one invocation does to a memory.
use Rattle.std.specs.Prelude.{◌≡◌, ℕ, suc, ◌==◌, ◌&&◌, if◌then◌else◌, List, [], ◌∷◌, length, Some, slice_get, slice_set, slice_index}
use Rattle.behavior.specs.Meanings.{Event, Read, Write, End, Out, Ids as BuiltIns}
use Rattle.spirv_words.specs.declared.images.Image.{Image}
use Rattle.spirv_words.specs.Runs.{words}
use Rattle.run_buffers.specs.declared.buffer.Buffer.{Buffer}
use Rattle.run_buffers.specs.declared.ids.Ids.{Ids}
use Rattle.run_buffers.specs.Memory.{words_of}

-- how many words the buffer of a set and a binding has
abbrev pub lengths_in : List Buffer → ℕ → ℕ → ℕ
lengths_in memory set binding = length (words_of memory set binding)

-- the memory with that word at an index of the buffer of a set and a binding; the same where no word is
abbrev pub put_word : List Buffer → ℕ → ℕ → ℕ → ℕ → List Buffer
put_word [] set binding index word = []
put_word (b ∷ bs) set binding index word =
    if b.set == set && b.binding == binding then record { set = b.set; binding = b.binding; words = slice_set b.words index word } ∷ bs
    else b ∷ put_word bs set binding index word

-- events on a memory, and the memory that they leave: a read gives the word that is there, and a write puts its word
abbrev pub Play : List Event → List Buffer → List Buffer → Type 0
Play [] before after = after ≡ before
Play (Read set binding index word ∷ events) before after = (slice_get (words_of before set binding) index ≡ Some word) × Play events before after
Play (Write set binding index word ∷ events) before after = Play events (put_word before set binding index word) after

abbrev pub three_of : List ℕ → ℕ × ℕ × ℕ
three_of p = (slice_index p 0, slice_index p 1, slice_index p 2)

abbrev pub built_ins_of : Ids → BuiltIns
built_ins_of ids = record { group = three_of ids.group; local = three_of ids.local; global = three_of ids.global; index = ids.index }

-- an invocation on a memory has come so far within so many steps: what it does leaves this memory, and ends so. It reads at
-- most one word in each step.
pub record Within (image : Image) (ids : Ids) (before : List Buffer) (steps : ℕ) (after : List Buffer) (end : End) : Type 0 where
  pub answers : List ℕ
  pub enough : length answers ≡ steps
  pub plays : Play (words image (built_ins_of ids) (lengths_in before) answers steps).events before after
  pub ends : (words image (built_ins_of ids) (lengths_in before) answers steps).ending ≡ end

-- it ends with the step of this number, counted from 1 on, and not before
pub record EndsAt (image : Image) (ids : Ids) (before : List Buffer) (step : ℕ) (after : List Buffer) (end : End) : Type 0 where
  pub earlier : ℕ
  pub last : step ≡ suc earlier
  pub memory : List Buffer
  pub unfinished : Within image ids before earlier memory Out
  pub finished : Within image ids before step after end
