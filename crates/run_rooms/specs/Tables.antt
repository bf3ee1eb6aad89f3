-- The tables as a layout.
use Rattle.std.specs.Prelude.{◌≡◌, ℕ, ◌+◌, suc, ◌^◌, ◌≤◌, ◌<◌, List, length, slice_index}
use Rattle.spirv_words.specs.declared.images.Instruction.{Instruction}
use Rattle.run_rooms.specs.declared.tables.Tables.{Tables}
use Rattle.run_rooms.specs.declared.parts.Part.{Part}
use Rattle.run_rooms.specs.Layout.{Layout, IsPart, IsTable, part_in}
use Rattle.run_rooms.specs.Needs.{HasCall, words_of}

abbrev pub layout_of : List Instruction → Tables → Layout
layout_of code t = record { code = code; slots = t.slots.items; rooms = t.rooms.items; parts = t.parts.items; total = t.total }

-- the places of instructions, by the parts of their functions and the words before them in these
pub record ArePlaced (homes room_offsets slot_offsets : List ℕ) (parts : List Part) (t : Tables) : Type 0 where
  pub same : t.parts.items ≡ parts
  pub slots : IsTable (λ k. (part_in parts (slice_index homes k)).frame + 2 + slice_index slot_offsets k) (length homes) t.slots.items
  pub rooms : IsTable (λ k. (part_in parts (slice_index homes k)).rooms + slice_index room_offsets k) (length homes) t.rooms.items
  pub ends : (f : ℕ) → (part_in parts f).end ≤ t.total
  pub small : t.total < 2 ^ 32

-- where functions begin: behind what is outside of functions, and behind all that call them; 32 bits tell where they end
pub record AreStarts (code : List Instruction) (begins : List ℕ) : Type 0 where
  pub first : slice_index begins 0 ≡ 0
  pub behind : (function : ℕ) → suc function ≤ length code → words_of code 0 ≤ slice_index begins (suc function)
  pub calls : (caller callee : ℕ) → HasCall code caller callee → slice_index begins caller + words_of code caller ≤ slice_index begins callee
  pub within : (function : ℕ) → function ≤ length code → slice_index begins function + words_of code function < 2 ^ 32

-- the parts of all functions
pub record AreLaid (code : List Instruction) (parts : List Part) : Type 0 where
  pub filled : (function : ℕ) → function ≤ length code → IsPart code function (part_in parts function)
  pub first : (part_in parts 0).begin ≡ 0
  pub behind : (function : ℕ) → suc function ≤ length code → (part_in parts 0).end ≤ (part_in parts (suc function)).begin
  pub calls : (caller callee : ℕ) → HasCall code caller callee → (part_in parts caller).end ≤ (part_in parts callee).begin
  pub within : (function : ℕ) → function ≤ length code → (part_in parts function).end < 2 ^ 32
