-- What a run begins with, and the buffers that it needs.
use Rattle.std.specs.Prelude.{◌≡◌, ℕ, suc, ◌+◌, ◌/◌, ◌^◌, ◌-◌, min, true, cond, List, [], ◌∷◌, length, Option, Some, None, slice_get}
use Rattle.spirv_words.specs.declared.images.Instruction.{Instruction}
use Rattle.spirv_words.specs.Machine.{Shape, Root, Local, Input, Operand, Plain, Path, InBuffer, decoration, or_zero, if_some}
use Rattle.flat_values.specs.Flat.{flat}
use Rattle.flat_values.specs.Ranges.{Stands}
use Rattle.flat_values.specs.Pieces.{Piece, At, OutOfRange, NoPart, piece}
use Rattle.run_actions.specs.declared.actions.Action.{Action}
use Rattle.image_declarations.specs.Decorations.{same_pair}
use Rattle.image_operands.specs.Marks.{is_buffer}
use Rattle.image_facts.specs.Alike.{reach}
use Rattle.image_facts.specs.Operands.{globals_of, root_shape}
use Rattle.image_scopes.specs.Scopes.{IsGlobal}
use Rattle.run_rooms.specs.Rooms.{Rooms}
use Rattle.run_plans.specs.Actions.{action_of, target_shape}

-- ---- operands as words

-- where a variable's words stand, or those of a built-in value
abbrev pub base_of : Rooms → Root → ℕ
base_of L (Local level variable) = L.room variable
base_of L (Input b) = L.input b

abbrev pub place_in : Piece → ℕ
place_in (At place of) = place
place_in OutOfRange = 0
place_in NoPart = 0

-- the place of the words to which a path leads
abbrev pub address_of : List Instruction → Rooms → Root → List ℕ → ℕ
address_of code L root path = if_some (root_shape code root) 0 (λ s. place_in (piece s path (base_of L root)))

-- the number of a buffer
abbrev pub number_in : List (ℕ × ℕ) → ℕ × ℕ → ℕ
number_in [] pair = 0
number_in (p ∷ ps) pair = cond (same_pair p pair) 0 (suc (number_in ps pair))

-- a byte's word, as far as a word tells
abbrev pub word_of_byte : ℕ → ℕ
word_of_byte byte = min (byte / 4) (2 ^ 32 - 1)

-- the words of an operand
abbrev pub words_of : List Instruction → Rooms → Operand → List ℕ
words_of code L (Plain v) = flat v
words_of code L (Path root path) = address_of code L root path ∷ []
words_of code L (InBuffer set binding byte s) = number_in L.buffers (set, binding) ∷ word_of_byte byte ∷ []

-- the words in which all that is outside of functions stands, as it does before a run, in it and after it
pub record IsSteady (code : List Instruction) (L : Rooms) (ws : List ℕ) : Type 0 where
  pub all : length ws ≡ L.total
  pub stands : (x : ℕ) (o : Operand) → IsGlobal code x → (globals_of code).ids x ≡ Some o → Stands (words_of code L o) (L.slot x) ws

-- ---- actions

pub record AreActions (code : List Instruction) (L : Rooms) (actions : List Action) : Type 0 where
  pub as_many : length actions ≡ length code
  pub each : (k : ℕ) (i : Instruction) → slice_get code k ≡ Some i → slice_get actions k ≡ Some (action_of code L k i)

-- ---- buffers

abbrev pub set_of : List Instruction → ℕ → ℕ
set_of code x = or_zero (decoration code x 34)

abbrev pub binding_of : List Instruction → ℕ → ℕ
binding_of code x = or_zero (decoration code x 33)

-- how many words a buffer of a shape needs: up to its last scalar
abbrev pub needed_words : Option Shape → ℕ
needed_words None = 0
needed_words (Some s) = (reach s + 3) / 4

-- the buffer of a variable
abbrev pub needs : List Instruction → ℕ → ℕ
needs code x = needed_words (target_shape code x)

-- each number is that of a buffer of the image, and each buffer has one
pub record AreBuffers (code : List Instruction) (pairs : List (ℕ × ℕ)) : Type 0 where
  pub each : (x : ℕ) → is_buffer code x ≡ true
      → slice_get pairs (number_in pairs (set_of code x, binding_of code x)) ≡ Some (set_of code x, binding_of code x)
  pub of : (n : ℕ) (pair : ℕ × ℕ) → slice_get pairs n ≡ Some pair
      → (number_in pairs pair ≡ n) × ((x : ℕ) × (is_buffer code x ≡ true) × (pair ≡ (set_of code x, binding_of code x)))
