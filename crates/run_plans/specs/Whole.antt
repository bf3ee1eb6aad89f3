-- What an image is run by.
use Rattle.std.specs.Prelude.{◌≡◌, ℕ, suc, true, List, [], ◌∷◌, map, Some, slice_get}
use Rattle.spirv_words.specs.declared.images.Instruction.{Instruction}
use Rattle.spirv_words.specs.Runs.{start_place}
use Rattle.image_operands.specs.Marks.{is_buffer}
use Rattle.run_rooms.specs.Rooms.{Rooms, AreRooms}
use Rattle.run_plans.specs.declared.base.Bound.{Bound}
use Rattle.run_plans.specs.declared.plan.Plan.{Plan}
use Rattle.run_plans.specs.Plans.{AreActions, IsSteady, AreBuffers, set_of, binding_of, needs}
use Rattle.run_plans.specs.Ground.{pair_of}
use Rattle.run_plans.specs.Buffers.{IsBefore}

-- the actions of an image, the words with which its runs begin, and where they begin, by the places of its values
pub record IsPlan (code : List Instruction) (L : Rooms) (p : Plan) : Type 0 where
  pub rooms : AreRooms code L
  pub actions : AreActions code L p.actions.items
  pub words : IsSteady code L p.words.items
  pub buffers : AreBuffers code L.buffers
  pub pairs : map pair_of p.buffers ≡ L.buffers
  pub ascending : (n : ℕ) (a b : Bound) → slice_get p.buffers n ≡ Some a → slice_get p.buffers (suc n) ≡ Some b → IsBefore a b
  -- each buffer needs as many words as each variable of it
  pub need : (n : ℕ) (b : Bound) (x : ℕ) → slice_get p.buffers n ≡ Some b → is_buffer code x ≡ true → set_of code x ≡ b.set
      → binding_of code x ≡ b.binding → b.words ≡ needs code x
  pub place : p.place ≡ start_place code
  -- the function of the entry has the number of its first Label
  pub first : p.first ≡ L.rooms (start_place code)
  pub count : p.count ≡ L.rooms_count (start_place code)
  pub inputs : p.inputs ≡ map L.input (26 ∷ 27 ∷ 28 ∷ 29 ∷ [])
