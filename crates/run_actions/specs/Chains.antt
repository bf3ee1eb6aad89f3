-- Where the indices of an access chain lead.
use Rattle.std.specs.Prelude.{ℕ, zero, suc, ◌+◌, ◌-◌, ◌*◌, ◌/◌, ◌^◌, min, Bool, true, not, ◌&&◌, cond, nat_lt, List, [], ◌∷◌, length, slice_index}
use Rattle.behavior.specs.Operations.{is_negative}
use Rattle.run_actions.specs.declared.actions.Extent.{Extent}
use Rattle.run_actions.specs.declared.actions.Extent.TheVariants.{Fixed, Whole}
use Rattle.run_actions.specs.declared.actions.Index.{Index}
use Rattle.run_actions.specs.declared.turns.Followed.{Followed}
use Rattle.run_actions.specs.declared.turns.Followed.TheVariants.{To, Beyond}

-- how many whole strides a buffer of so many words has
abbrev pub whole : ℕ → ℕ → ℕ
whole words zero = 0
whole words (suc stride) = words / suc stride

abbrev pub extent_of : Extent → ℕ → ℕ → ℕ
extent_of (Fixed n) words stride = n
extent_of Whole words stride = whole words stride

-- a place, as far as a word tells
abbrev pub to_word : ℕ → Followed
to_word place = To (min place (2 ^ 32 - 1))

-- the word of an index is in its range
abbrev pub is_within : Index → ℕ → ℕ → Bool
is_within i words w = not (i.signed && is_negative w) && nat_lt w (extent_of i.extent words i.stride)

abbrev pub is_chosen : List ℕ → ℕ → Index → Bool
is_chosen ws words i = nat_lt i.slot (length ws) && is_within i words (slice_index ws i.slot)

abbrev pub all_chosen : List ℕ → ℕ → List Index → Bool
all_chosen ws words [] = true
all_chosen ws words (i ∷ is) = is_chosen ws words i && all_chosen ws words is

-- how far an index leads, and all of them
abbrev pub far : List ℕ → Index → ℕ
far ws i = slice_index ws i.slot * i.stride

abbrev pub distance : List ℕ → List Index → ℕ
distance ws [] = 0
distance ws (i ∷ is) = far ws i + distance ws is

-- where indices lead from a place on, with a fixed offset
abbrev pub moved_on : List ℕ → ℕ → List Index → ℕ → ℕ → Followed
moved_on ws words steps from offset = cond (all_chosen ws words steps) (to_word (from + offset + distance ws steps)) Beyond
