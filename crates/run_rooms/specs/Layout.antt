-- Where the words of an image's values stand, as tables by the number of an instruction and by that of a function.
use Rattle.std.specs.Prelude.{◌≡◌, ℕ, suc, ◌+◌, ◌-◌, ◌*◌, ◌^◌, ◌<◌, ◌≤◌, Bool, ◌&&◌, cond, nat_eq, List, ◌∷◌, length, min, Option, Some, None, slice_get, slice_index, slice_index_or}
use Rattle.std.specs.Option.{option_map}
use Rattle.spirv_words.specs.declared.opcodes.Op.{Op}
use Rattle.spirv_words.specs.declared.opcodes.Op.TheVariants.{FunctionCall}
use Rattle.spirv_words.specs.declared.images.Instruction.{Instruction}
use Rattle.spirv_words.specs.Machine.{place_of, if_some}
use Rattle.flat_values.specs.Flat.{width}
use Rattle.image_lookup.specs.Sorts.{sort_of, is_value_sort}
use Rattle.image_lookup.specs.Lookups.{operand}
use Rattle.image_places.specs.Places.{function_of}
use Rattle.image_operands.specs.Marks.{is_variable_sort}
use Rattle.image_facts.specs.Operands.{shape}
use Rattle.run_rooms.specs.declared.parts.Part.{Part}
use Rattle.run_rooms.specs.Rooms.{Rooms, size_of}
use Rattle.run_rooms.specs.Sums.{before}

-- ---- what an instruction has

-- the words of its result, if that is a value
abbrev pub slot_words : List Instruction → Instruction → ℕ
slot_words code i = cond (is_value_sort (sort_of i.op)) (size_of code (slice_index i.operands 0)) 0

-- a variable of a function
abbrev pub declares_local : Instruction → Bool
declares_local i = is_variable_sort (sort_of i.op) && nat_eq (slice_index i.operands 2) 7

-- the words that such a variable holds
abbrev pub room_words : List Instruction → Instruction → ℕ
room_words code i = cond (declares_local i) (if_some (shape code (operand code (slice_index i.operands 0) 2)) 0 width) 0

abbrev pub slot_words_at : List Instruction → ℕ → ℕ
slot_words_at code k = if_some (slice_get code k) 0 (slot_words code)

abbrev pub room_words_at : List Instruction → ℕ → ℕ
room_words_at code k = if_some (slice_get code k) 0 (room_words code)

abbrev pub called_by : List Instruction → Op → List ℕ → Option ℕ
called_by code FunctionCall (t ∷ r ∷ f ∷ arguments) = option_map suc (place_of code f 0)
called_by code op operands = None

-- the number of the function that an instruction calls
abbrev pub called : List Instruction → Instruction → Option ℕ
called code i = called_by code i.op i.operands

-- ---- tables

pub record Layout : Type 0 where
  pub code : List Instruction
  -- by the number of an instruction: where its result stands, and what it holds if it is a variable
  pub slots : List ℕ
  pub rooms : List ℕ
  -- by the number of a function
  pub parts : List Part
  pub total : ℕ

abbrev pub no_part : Part
no_part = record { begin = 0; rooms = 0; rooms_count = 0; frame = 0; end = 0 }

abbrev pub part_in : List Part → ℕ → Part
part_in parts function = slice_index_or parts function no_part

-- what a table says of the instruction that defines an id
abbrev pub told : List Instruction → List ℕ → ℕ → ℕ
told code table x = if_some (place_of code x 0) 0 (λ p. slice_index table p)

-- the built-in values stand at the very start
abbrev pub input_place : ℕ → ℕ
input_place b = 3 * (min b 29 - 26)

-- the words before the variables of a function: those of the built-in values stand outside of functions
abbrev pub lead : ℕ → ℕ
lead function = cond (nat_eq function 0) 10 0

abbrev pub rooms_in : Layout → List (ℕ × ℕ) → Rooms
rooms_in l pairs = record {
  slot = λ x. told l.code l.slots x;
  room = λ x. told l.code l.rooms x;
  frame = λ function. (part_in l.parts function).frame;
  input = input_place;
  begins = λ function. (part_in l.parts function).begin;
  ends = λ function. (part_in l.parts function).end;
  rooms = λ function. (part_in l.parts function).rooms;
  rooms_count = λ function. (part_in l.parts function).rooms_count;
  total = l.total;
  buffers = pairs;
}

-- ---- what they say

-- a part with so many words at its front, of variables, and of values, one kind behind the other
pub record IsFilled (front rooms_sum slots_sum : ℕ) (p : Part) : Type 0 where
  pub rooms : p.rooms ≡ p.begin + front
  pub count : p.rooms_count ≡ rooms_sum
  pub frame : p.frame ≡ p.rooms + p.rooms_count
  pub end : p.end ≡ p.frame + 2 + slots_sum

-- the words of a function
abbrev pub IsPart : List Instruction → ℕ → Part → Type 0
IsPart code function p =
    IsFilled (lead function) (before (function_of code) (room_words_at code) function (length code)) (before (function_of code) (slot_words_at code) function (length code)) p

pub record IsLayout (l : Layout) : Type 0 where
  pub slots : (k : ℕ) → k < length l.code
      → slice_index l.slots k ≡ (part_in l.parts (function_of l.code k)).frame + 2 + before (function_of l.code) (slot_words_at l.code) (function_of l.code k) k
  pub rooms : (k : ℕ) → k < length l.code
      → slice_index l.rooms k ≡ (part_in l.parts (function_of l.code k)).rooms + before (function_of l.code) (room_words_at l.code) (function_of l.code k) k
  pub parts : (function : ℕ) → function ≤ length l.code → IsPart l.code function (part_in l.parts function)
  pub first : (part_in l.parts 0).begin ≡ 0
  pub behind : (function : ℕ) → suc function ≤ length l.code → (part_in l.parts 0).end ≤ (part_in l.parts (suc function)).begin
  pub within : (function : ℕ) → function ≤ length l.code → (part_in l.parts function).end ≤ l.total
  pub calls : (k callee : ℕ) (i : Instruction) → slice_get l.code k ≡ Some i → called l.code i ≡ Some callee
      → (part_in l.parts (function_of l.code k)).end ≤ (part_in l.parts callee).begin
  pub small : l.total < 2 ^ 32

-- ---- single tables

-- a list of so many numbers, one by one those of a function
pub record IsTable (f : ℕ → ℕ) (n : ℕ) (xs : List ℕ) : Type 0 where
  pub as_many : length xs ≡ n
  pub tells : (k : ℕ) → k < n → slice_index xs k ≡ f k

-- the words before each instruction in its function, and those of each function
pub record AreOffsets (homes words offsets sums : List ℕ) : Type 0 where
  pub offset : IsTable (λ k. before (slice_index homes) (slice_index words) (slice_index homes k) k) (length homes) offsets
  pub sum : IsTable (λ f. before (slice_index homes) (slice_index words) f (length homes)) (suc (length homes)) sums

-- the words of a function, by those of its variables and of its values
abbrev pub summed : List ℕ → List ℕ → ℕ → ℕ
summed rooms_sums slots_sums f = lead f + slice_index rooms_sums f + 2 + slice_index slots_sums f

-- some function has more words than 32 bits tell
pub record HasFarSum (n : ℕ) (words : ℕ → ℕ) : Type 0 where
  pub function : ℕ
  pub within : function < n
  pub far : 2 ^ 32 ≤ words function

-- the parts of functions with so many words of variables and of values, which begin there
pub record AreParts (begins rooms_sums slots_sums : List ℕ) (parts : List Part) : Type 0 where
  pub filled : (f : ℕ) → f < length rooms_sums → IsFilled (lead f) (slice_index rooms_sums f) (slice_index slots_sums f) (part_in parts f)
  pub begin : (f : ℕ) → f < length rooms_sums → (part_in parts f).begin ≡ slice_index begins f
