-- Where an instruction stands: its place in words, and the Function and the Label under which it stands. Instructions are
-- numbered from 0 on.
use Rattle.std.specs.Prelude.{◌≡◌, ℕ, zero, suc, ◌+◌, ◌<◌, ◌≤◌, Bool, IsTrue, List, length, take, slice_get, Option, Some, None}
use Rattle.std.specs.Option.{option_map}
use Rattle.spirv_words.specs.declared.opcodes.Op.{Op}
use Rattle.spirv_words.specs.declared.opcodes.Op.TheVariants.{Function, FunctionEnd, Label}
use Rattle.spirv_words.specs.declared.images.Instruction.{Instruction}
use Rattle.spirv_words.specs.Words.{body_words}
use Rattle.image_places.specs.declared.cursor.Cursor.{Cursor}

-- ---- places

-- the word at which an instruction begins, after the five words of the header; for the number of instructions it is the
-- number of all words
abbrev pub word_of : List Instruction → ℕ → ℕ
word_of is k = 5 + length (body_words (take k is))

-- the first place at which something is wrong, or none if nothing is wrong anywhere
abbrev pub IsFirst : (ℕ → Type 0) → Option ℕ → Type 0
IsFirst Wrong None = (place : ℕ) → Wrong place → ⊥
IsFirst Wrong (Some place) = Wrong place × ((before : ℕ) → before < place → Wrong before → ⊥)

-- a place is the first word of an instruction, or the end of the image, and a test says of its number that something is wrong
pub record FaultAt (is : List Instruction) (wrong : ℕ → Bool) (place : ℕ) : Type 0 where
  pub number : ℕ
  pub within : number ≤ length is
  pub place_is : place ≡ word_of is number
  pub is_wrong : IsTrue (wrong number)

-- ---- what an instruction stands under

-- the opcode of an instruction, if there are so many
abbrev pub op_at : List Instruction → ℕ → Option Op
op_at is k = option_map (λ i. i.op) (slice_get is k)

abbrev pub under_function : Option Op → ℕ → ℕ → ℕ
under_function (Some Function) here before = here
under_function (Some FunctionEnd) here before = 0
under_function op here before = before

-- the function that is open after the first so many instructions: the number of its Function, counted from 1 on, or 0 if
-- none is open
abbrev pub function_of : List Instruction → ℕ → ℕ
function_of is zero = 0
function_of is (suc k) = under_function (op_at is k) (suc k) (function_of is k)

abbrev pub under_label : Option Op → ℕ → ℕ → ℕ
under_label (Some Label) here before = here
under_label (Some FunctionEnd) here before = 0
under_label op here before = before

-- the block that is open after the first so many instructions: the number of its Label, counted from 1 on, or 0 if none
-- is open
abbrev pub block_of : List Instruction → ℕ → ℕ
block_of is zero = 0
block_of is (suc k) = under_label (op_at is k) (suc k) (block_of is k)

-- ---- all of these

-- before the instruction with this number
abbrev pub cursor_at : List Instruction → ℕ → Cursor
cursor_at is k = record { number = k; place = word_of is k; function = function_of is k; block = block_of is k }
