-- The indices of an access chain, resolved to a fixed offset and steps.
use Rattle.std.specs.Prelude.{ℕ, ◌+◌, ◌-◌, ◌/◌, ◌%◌, ◌^◌, ◌<◌, min, ◌&&◌, ◌||◌, Bool, true, false, cond, nat_eq, List, [], ◌∷◌, length, slice_index}
use Rattle.behavior.specs.Operations.{is_negative}
use Rattle.spirv_words.specs.Machine.{Shape, Repeated, Unbounded, Fields, if_some}
use Rattle.spirv_words.specs.Step.{field_at, Spot, Byte, Beyond as Outside, Nowhere}
use Rattle.flat_values.specs.Flat.{width}
use Rattle.flat_values.specs.Pieces.{Piece, At, OutOfRange, NoPart, member}
use Rattle.run_actions.specs.declared.actions.Extent.TheVariants.{Fixed, Whole}
use Rattle.run_actions.specs.declared.actions.Index.{Index}
use Rattle.run_actions.specs.declared.turns.Followed.{Followed}
use Rattle.run_actions.specs.declared.turns.Followed.TheVariants.{To, Beyond}

-- an index: the number of a member, or the place of a word that is an int or not
pub data Item : Type 0 where
  Member : (number : ℕ) → Item
  Slot : (place : ℕ) (signed : Bool) → Item

-- a fixed offset, the steps by words, and the shape that they lead to
pub data Planned : Type 0 where
  Plan : (offset : ℕ) (steps : List Index) (of : Shape) → Planned
  NoPlan : Planned

abbrev pub moved : ℕ → Planned → Planned
moved o (Plan offset steps of) = Plan (o + offset) steps of
moved o NoPlan = NoPlan

abbrev pub stepped : Index → Planned → Planned
stepped i (Plan offset steps of) = Plan offset (i ∷ steps) of
stepped i NoPlan = NoPlan

abbrev pub on_piece : Piece → (ℕ → Shape → Planned) → Planned
on_piece (At place of) go = go place of
on_piece OutOfRange go = NoPlan
on_piece NoPart go = NoPlan

-- how a chain of indices is resolved: members are known, and elements are chosen by words
abbrev pub plan : Shape → List Item → Planned
plan s [] = Plan 0 [] s
plan (Fields fs) (Member k ∷ items) = on_piece (member fs k 0) (λ o of. moved o (plan of items))
plan (Repeated n stride of) (Slot place signed ∷ items) =
    stepped (record { slot = place; extent = Fixed n; stride = width of; signed = signed }) (plan of items)
plan s items = NoPlan

-- a distance in bytes as one in words, if it is a whole number of them
abbrev pub in_words : ℕ → (ℕ → Planned) → Planned
in_words bytes go = cond (nat_eq (bytes % 4) 0) (go (bytes / 4)) NoPlan

-- the same in a buffer, where members and elements stand at the offsets and strides of the shape
abbrev pub buffer_plan : Shape → List Item → Planned
buffer_plan s [] = Plan 0 [] s
buffer_plan (Fields fs) (Member k ∷ items) = if_some (field_at fs k) NoPlan (λ f. in_words f.0 (λ o. moved o (buffer_plan f.1 items)))
buffer_plan (Repeated n stride of) (Slot place signed ∷ items) =
    in_words stride (λ w. stepped (record { slot = place; extent = Fixed n; stride = w; signed = signed }) (buffer_plan of items))
buffer_plan (Unbounded stride of) (Slot place signed ∷ items) =
    in_words stride (λ w. stepped (record { slot = place; extent = Whole; stride = w; signed = signed }) (buffer_plan of items))
buffer_plan s items = NoPlan

-- the numbers that the indices stand for
abbrev pub path_of : List ℕ → List Item → List ℕ
path_of ws [] = []
path_of ws (Member k ∷ items) = k ∷ path_of ws items
path_of ws (Slot place signed ∷ items) = slice_index ws place ∷ path_of ws items

-- an int among them is below 0
abbrev pub some_negative : List ℕ → List Item → Bool
some_negative ws [] = false
some_negative ws (Member k ∷ items) = some_negative ws items
some_negative ws (Slot place signed ∷ items) = (signed && is_negative (slice_index ws place)) || some_negative ws items

-- their words are there
abbrev pub AreThere : List ℕ → List Item → Type 0
AreThere ws [] = Unit {0}
AreThere ws (Member k ∷ items) = AreThere ws items
AreThere ws (Slot place signed ∷ items) = (place < length ws) × AreThere ws items

-- where a path leads that has an int below 0 or not
abbrev pub led : Bool → Piece → Followed
led true p = Beyond
led false (At place of) = To place
led false OutOfRange = Beyond
led false NoPart = Beyond

-- the same in a buffer: a byte's word, as far as a word tells
abbrev pub led_in_buffer : Bool → Spot → Followed
led_in_buffer true p = Beyond
led_in_buffer false (Byte n of) = To (min (n / 4) (2 ^ 32 - 1))
led_in_buffer false Outside = Beyond
led_in_buffer false Nowhere = Beyond
