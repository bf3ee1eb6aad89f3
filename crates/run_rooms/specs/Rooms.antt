-- Where the values of a run stand among its words. Functions are told by the number of their Function instruction, counted
-- from 1 on; 0 is what stands outside of functions.
use Rattle.std.specs.Prelude.{◌≡◌, ◌≢◌, ◌⊎◌, ℕ, suc, ◌+◌, ◌^◌, ◌<◌, ◌≤◌, true, cond, nat_eq, List, ◌∷◌, Some, slice_get}
use Rattle.spirv_words.specs.declared.opcodes.Op.TheVariants.{Function, FunctionCall}
use Rattle.spirv_words.specs.declared.images.Instruction.{Instruction}
use Rattle.spirv_words.specs.Machine.{place_of, if_some}
use Rattle.flat_values.specs.Flat.{width}
use Rattle.image_lookup.specs.Lookups.{operand, is_value}
use Rattle.image_places.specs.Places.{op_at, function_of}
use Rattle.image_declarations.specs.Reach.{is_buffer_class}
use Rattle.image_operands.specs.Memory.{is_pointer}
use Rattle.image_facts.specs.Operands.{shape, type_id, is_local, is_built_in}

pub record Rooms : Type 0 where
  -- the words of what an id stands for
  pub slot : ℕ → ℕ
  -- the words that a variable of a function holds
  pub room : ℕ → ℕ
  -- the two words of a function's call: where it goes back to, and where its result is wanted
  pub frame : ℕ → ℕ
  -- the words of a built-in value, by its number
  pub input : ℕ → ℕ
  -- where the words of a function begin, and where they end
  pub begins : ℕ → ℕ
  pub ends : ℕ → ℕ
  -- where the variables of a function stand, and how many words they have
  pub rooms : ℕ → ℕ
  pub rooms_count : ℕ → ℕ
  -- all words
  pub total : ℕ
  -- the buffers of the image by their numbers: set and binding
  pub buffers : List (ℕ × ℕ)

-- ---- sizes

-- how many words an operand of a type has: two for a pointer into a buffer, and one for another pointer
abbrev pub size_of : List Instruction → ℕ → ℕ
size_of code t = cond (is_pointer code t) (cond (is_buffer_class (operand code t 1)) 2 1) (if_some (shape code t) 0 width)

-- how many words an id has
abbrev pub slot_size : List Instruction → ℕ → ℕ
slot_size code x = size_of code (type_id code x)

-- how many words a variable holds
abbrev pub room_size : List Instruction → ℕ → ℕ
room_size code x = if_some (shape code (operand code (type_id code x) 2)) 0 width

abbrev pub input_size : ℕ → ℕ
input_size b = cond (nat_eq b 29) 1 3

-- ---- cells

-- what has words of its own
pub data Cell : Type 0 where
  Slot : (x : ℕ) → Cell
  Room : (x : ℕ) → Cell
  Frame : (function : ℕ) → Cell
  Input : (built_in : ℕ) → Cell

abbrev pub IsFunction : List Instruction → ℕ → Type 0
IsFunction code function = (p : ℕ) × (function ≡ suc p) × (op_at code p ≡ Some Function)

abbrev pub IsCell : List Instruction → Cell → Type 0
IsCell code (Slot x) = is_value code x ≡ true
IsCell code (Room x) = is_local code x ≡ true
IsCell code (Frame function) = IsFunction code function
IsCell code (Input b) = is_built_in b ≡ true

abbrev pub cell_size : List Instruction → Cell → ℕ
cell_size code (Slot x) = slot_size code x
cell_size code (Room x) = room_size code x
cell_size code (Frame function) = 2
cell_size code (Input b) = input_size b

abbrev pub cell_place : Rooms → Cell → ℕ
cell_place L (Slot x) = L.slot x
cell_place L (Room x) = L.room x
cell_place L (Frame function) = L.frame function
cell_place L (Input b) = L.input b

-- the function in which an id is defined
abbrev pub home_of : List Instruction → ℕ → ℕ
home_of code x = if_some (place_of code x 0) 0 (λ p. function_of code p)

abbrev pub cell_home : List Instruction → Cell → ℕ
cell_home code (Slot x) = home_of code x
cell_home code (Room x) = home_of code x
cell_home code (Frame function) = function
cell_home code (Input b) = 0

-- two ranges have no word in common
abbrev pub AreApart : ℕ → ℕ → ℕ → ℕ → Type 0
AreApart a m b n = (a + m ≤ b) ⊎ (b + n ≤ a)

abbrev pub IsNoRoom : Cell → Type 0
IsNoRoom (Room x) = ⊥
IsNoRoom c = Unit {0}

-- an instruction calls a function
pub record IsCall (i : Instruction) (t r f : ℕ) (arguments : List ℕ) : Type 0 where
  pub op : i.op ≡ FunctionCall
  pub operands : i.operands ≡ t ∷ r ∷ f ∷ arguments

-- ---- rooms for an image

-- the words of what is outside of functions stand first, and those of a function behind those of each function that calls it.
-- What is in one function has words of its own.
pub record AreRooms (code : List Instruction) (L : Rooms) : Type 0 where
  pub first : L.begins 0 ≡ 0
  pub within : (c : Cell) → IsCell code c
      → (L.begins (cell_home code c) ≤ cell_place L c) × (cell_place L c + cell_size code c ≤ L.ends (cell_home code c))
  pub apart : (c d : Cell) → IsCell code c → IsCell code d → c ≢ d → cell_home code c ≡ cell_home code d
      → AreApart (cell_place L c) (cell_size code c) (cell_place L d) (cell_size code d)
  pub behind : (function : ℕ) → IsFunction code function → (L.ends 0 ≤ L.begins function) × (L.ends function ≤ L.total)
  pub inside : L.ends 0 ≤ L.total
  pub calls : (k p : ℕ) (i : Instruction) (t r f : ℕ) (arguments : List ℕ) → slice_get code k ≡ Some i → IsCall i t r f arguments
      → place_of code f 0 ≡ Some p → L.ends (function_of code k) ≤ L.begins (suc p)
  pub rooms_within : (function : ℕ) → IsFunction code function
      → (L.begins function ≤ L.rooms function) × (L.rooms function + L.rooms_count function ≤ L.ends function)
  pub rooms_hold : (x : ℕ) → is_local code x ≡ true
      → (L.rooms (home_of code x) ≤ L.room x) × (L.room x + room_size code x ≤ L.rooms (home_of code x) + L.rooms_count (home_of code x))
  pub rooms_apart : (c : Cell) (function : ℕ) → IsCell code c → IsFunction code function → cell_home code c ≡ function → IsNoRoom c
      → AreApart (cell_place L c) (cell_size code c) (L.rooms function) (L.rooms_count function)
  pub small : L.total < 2 ^ 32
