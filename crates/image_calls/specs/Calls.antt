-- Which calls are wrong.
use Rattle.std.specs.Prelude.{◌≡◌, ◌⊎◌, ℕ, ◌<◌, true, List, take, length, fold, Option, Some, None, slice_get}
use Rattle.spirv_words.specs.declared.images.Instruction.{Instruction}
use Rattle.spirv_words.specs.Runs.{entry_of}
use Rattle.image_places.specs.Places.{word_of}
use Rattle.call_graph.specs.Edges.{Leads}
use Rattle.image_calls.specs.Edges.{open_after, edge_of, calls}
use Rattle.image_calls.specs.Arguments.{is_bad}

-- what is called leads back to the function that calls
abbrev pub LeadsBack : List (ℕ × ℕ) → Option (ℕ × ℕ) → Type 0
LeadsBack edges None = ⊥
LeadsBack edges (Some e) = Leads edges e.1 e.0

-- the function that is open before the instruction with this number
abbrev pub inside_at : List Instruction → ℕ → Option ℕ
inside_at code k = fold (λ inside i. open_after i inside) None (take k code)

-- an instruction is a call with other arguments or of the entry, or one whose function leads back
abbrev pub IsWrongCall : List Instruction → ℕ → Instruction → Type 0
IsWrongCall code k i = (is_bad code (entry_of code) i ≡ true) ⊎ LeadsBack (calls None code) (edge_of i (inside_at code k))

-- the same for the instruction with this number, counted from 0
abbrev pub HasWrongCall : List Instruction → ℕ → Type 0
HasWrongCall code k = (i : Instruction) × (slice_get code k ≡ Some i) × IsWrongCall code k i

-- of so many, the first for which something holds, if it holds for one
abbrev pub IsFirstBad : (ℕ → Type 0) → ℕ → Option ℕ → Type 0
IsFirstBad Bad n None = (k : ℕ) → k < n → Bad k → ⊥
IsFirstBad Bad n (Some k) = (k < n) × Bad k × ((j : ℕ) → j < k → Bad j → ⊥)

-- a place is the first word of a wrong call
pub record BadCall (code : List Instruction) (place : ℕ) : Type 0 where
  pub number : ℕ
  pub within : number < length code
  pub place_is : place ≡ word_of code number
  pub is_wrong : HasWrongCall code number
