-- Images whose runs have more words than 32 bits tell.
use Rattle.std.specs.Prelude.{◌≡◌, ◌⊎◌, ℕ, ◌+◌, ◌^◌, ◌<◌, ◌≤◌, List, length, Some, slice_get}
use Rattle.spirv_words.specs.declared.images.Instruction.{Instruction}
use Rattle.spirv_words.specs.Machine.{Shape}
use Rattle.flat_values.specs.Flat.{width}
use Rattle.image_places.specs.Places.{function_of}
use Rattle.image_facts.specs.Operands.{shape}
use Rattle.call_layout.specs.Chains.{IsChain, chain_words}
use Rattle.run_rooms.specs.Rooms.{IsFunction}
use Rattle.run_rooms.specs.Sums.{before}
use Rattle.run_rooms.specs.Layout.{called, lead, room_words_at, slot_words_at}

-- a function has a call of another one; both are told by their numbers
pub record HasCall (code : List Instruction) (caller callee : ℕ) : Type 0 where
  pub number : ℕ
  pub instruction : Instruction
  pub stands : slice_get code number ≡ Some instruction
  pub inside : function_of code number ≡ caller
  pub calls : called code instruction ≡ Some callee

-- the words of a function: its variables, the two words of its call, and the values that it computes; outside of functions
-- those of the built-in values too
abbrev pub words_of : List Instruction → ℕ → ℕ
words_of code function =
    lead function + before (function_of code) (room_words_at code) function (length code) + 2 + before (function_of code) (slot_words_at code) function (length code)

-- functions each of which is called by the next
abbrev pub IsCallChain : List Instruction → List ℕ → Type 0
IsCallChain code chain = IsChain (IsFunction code) (HasCall code) chain

-- the values of some type have so many words
pub record HasWideType (code : List Instruction) : Type 0 where
  pub type : ℕ
  pub form : Shape
  pub is : shape code type ≡ Some form
  pub far : 2 ^ 32 ≤ width form

-- so have the functions of a chain of calls, with what is outside of functions
pub record HasLongChain (code : List Instruction) : Type 0 where
  pub chain : List ℕ
  pub is : IsCallChain code chain
  pub far : 2 ^ 32 ≤ words_of code 0 + chain_words (words_of code) chain

-- 32 bits do not tell the number of instructions, the words of some type, or those of some chain of calls
abbrev pub NeedsTooMuch : List Instruction → Type 0
NeedsTooMuch code = (2 ^ 32 ≤ length code) ⊎ (HasWideType code ⊎ HasLongChain code)

-- all types have fewer words
abbrev pub IsNarrow : List Instruction → Type 0
IsNarrow code = (t : ℕ) (s : Shape) → shape code t ≡ Some s → width s < 2 ^ 32
