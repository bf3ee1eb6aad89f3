-- The words of values fit their rooms.
use Rattle.std.proofs.Common.{◌≡◌, ℕ, ◌+◌, ◌^◌, ◌<◌, true, List, refl, Option, sym, ap, ◌∙◌, subst}
use Rattle.spirv_words.specs.declared.images.Instruction.{Instruction}
use Rattle.spirv_words.specs.Machine.{Shape, if_some}
use Rattle.flat_values.specs.Flat.{width}
use Rattle.image_lookup.specs.Lookups.{is_value}
use Rattle.image_declarations.specs.Holdings.{is_data}
use Rattle.run_rooms.specs.Rooms.{Rooms, AreRooms, size_of, slot_size}
use Rattle.run_rooms.proofs.Defined.{value-placed}
use Rattle.run_rooms.specs.Valid.{IsOfValid}
use Rattle.run_plans.specs.Walks.{width_at}
use Rattle.run_plans.proofs.Facts.{data_shape}
use Rattle.run_plans.proofs.Fitting.{slot_inside, data_size}

-- 32 bits tell where the words of a value end
pub slot_fits : (code : List Instruction) → IsOfValid code → (L : Rooms) → AreRooms code L → (x : ℕ) → is_value code x ≡ true
    → L.slot x + slot_size code x < 2 ^ 32
slot_fits code v L rooms x value =
    subst (λ (c : List Instruction). AreRooms c L → is_value c x ≡ true → L.slot x + slot_size c x < 2 ^ 32) v.same
    (λ rooms value. let p = value-placed v.image.instructions x value in slot_inside v.image v.valid L rooms x p.place value p.there) rooms value

-- a type of data has as many words as its values
pub data_width : (code : List Instruction) → IsOfValid code → (t : ℕ) → is_data code t ≡ true → size_of code t ≡ width_at code t
data_width code v t d =
    subst (λ (c : List Instruction). is_data c t ≡ true → size_of c t ≡ width_at c t) v.same
    (λ d. let s = data_shape v.image.instructions (record { image = v.image; valid = v.valid; same = refl }) t d in
    data_size v.image v.valid t s.form d s.is ∙ sym (ap (λ (o : Option Shape). if_some o 0 width) s.is)) d
