-- What is known of the ground on which a plan is made: the image is valid, and its numbers fit 32 bits.
use Rattle.std.specs.Prelude.{◌≡◌, ◌⊎◌, ℕ, ◌^◌, ◌<◌, ◌≤◌, Bool, true, ◌||◌, not, nat_lt, List, [], ◌∷◌, Some, length}
use Rattle.spirv_words.specs.declared.images.Instruction.{Instruction}
use Rattle.spirv_words.specs.Machine.{Shape}
use Rattle.flat_values.specs.Flat.{width}
use Rattle.image_declarations.specs.Holdings.{extent, is_reached}
use Rattle.image_facts.specs.Operands.{shape}
use Rattle.run_rooms.specs.Rooms.{AreRooms}
use Rattle.run_rooms.specs.Needs.{NeedsTooMuch}
use Rattle.run_plans.specs.declared.base.Ground.{Ground}
use Rattle.run_plans.specs.Ground.{rooms_of}
use Rattle.run_plans.specs.Members.{HasRows}
use Rattle.run_rooms.specs.Valid.{IsOfValid}

-- 32 bits tell the number of each instruction
abbrev pub AreFew : List Instruction → Type 0
AreFew code = length code < 2 ^ 32

-- 32 bits tell how many words the values of each type have
pub record AreNarrow (code : List Instruction) : Type 0 where
  pub each : (t : ℕ) (s : Shape) → shape code t ≡ Some s → width s < 2 ^ 32

-- 32 bits tell the end, in bytes, of each type in a buffer
pub record AreNear (code : List Instruction) : Type 0 where
  pub each : (t : ℕ) → is_reached code t ≡ true → extent code t < 2 ^ 32

-- the same of the type that operands declare, if a buffer has it
abbrev pub is_near : List Instruction → List ℕ → Bool
is_near code [] = true
is_near code (t ∷ ts) = not (is_reached code t) || nat_lt (extent code t) (2 ^ 32)

-- a type in a buffer ends at 2^32 bytes or behind
pub record IsFar (code : List Instruction) : Type 0 where
  pub type_id : ℕ
  pub reached : is_reached code type_id ≡ true
  pub far : 2 ^ 32 ≤ extent code type_id

-- a run needs numbers that 32 bits do not tell: those of instructions, the words of a type or of a chain of calls, or the bytes
-- of a type in a buffer
abbrev pub IsTooLarge : List Instruction → Type 0
IsTooLarge code = NeedsTooMuch code ⊎ IsFar code

pub record IsGround (g : Ground) : Type 0 where
  pub valid : IsOfValid g.places.code
  pub rooms : AreRooms g.places.code (rooms_of g)
  pub few : AreFew g.places.code
  pub narrow : AreNarrow g.places.code
  pub near : AreNear g.places.code
  pub rows : HasRows g
