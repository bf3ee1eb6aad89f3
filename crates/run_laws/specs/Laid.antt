-- How the words of a run hold a state.
use Rattle.std.specs.Prelude.{◌≡◌, ◌≢◌, ℕ, suc, ◌+◌, ◌*◌, ◌%◌, ◌-◌, ◌≤◌, Bool, true, false, cond, nat_eq, List, [], ◌∷◌, length, Option, Some}
use Rattle.behavior.specs.Values.{Value}
use Rattle.spirv_words.specs.declared.images.Instruction.{Instruction}
use Rattle.spirv_words.specs.Machine.{Shape, Root, Local, Input, Operand, Plain, Path, InBuffer}
use Rattle.spirv_words.specs.Step.{Frame}
use Rattle.flat_values.specs.Flat.{flat}
use Rattle.flat_values.specs.Ranges.{Stands}
use Rattle.image_places.specs.Places.{function_of}
use Rattle.image_types.specs.Functions.{is_void}
use Rattle.image_facts.specs.Alike.{reach, is_endless, IsSpaced}
use Rattle.image_facts.specs.Operands.{is_local, is_built_in, type_id}
use Rattle.image_scopes.specs.Scopes.{IsSeen}
use Rattle.run_rooms.specs.Rooms.{Rooms, home_of}
use Rattle.run_plans.specs.Plans.{words_of}

-- the function that runs at a depth of calls, where one runs at a place above these calls
abbrev pub function_at : List Instruction → ℕ → List Frame → ℕ → ℕ
function_at code place [] level = function_of code place
function_at code place (f ∷ fs) level = cond (nat_eq level (suc (length fs))) (function_of code place) (function_at code f.place fs level)

-- what lies at a byte of a buffer of so many words is inside of it
pub record IsInside (byte : ℕ) (s : Shape) (words : ℕ) : Type 0 where
  pub whole_words : byte % 4 ≡ 0
  pub spaced : IsSpaced s
  pub first : is_endless s ≡ true → byte ≡ 0
  pub ends : reach s ≢ 0 → byte + reach s ≤ 4 * words

-- a pointer leads to a variable of a function that runs, to a built-in value, or inside of a buffer
abbrev pub LeadsNear : List Instruction → (ℕ → ℕ → ℕ) → ℕ → List Frame → Operand → Type 0
LeadsNear code lengths place below (Plain v) = Unit {0}
LeadsNear code lengths place below (Path (Local level x) path) = (level ≤ length below) × (home_of code x ≡ function_at code place below level)
LeadsNear code lengths place below (Path (Input b) path) = is_built_in b ≡ true
LeadsNear code lengths place below (InBuffer set binding byte s) = IsInside byte s (lengths set binding)

-- what the values stand for that may be named at an instruction of a function, where the words stand
abbrev pub AreLaid : List Instruction → Rooms → (ℕ → ℕ → ℕ) → ℕ → List Frame → (ℕ → Option Operand) → List ℕ → Type 0
AreLaid code L lengths k below ids ws = (x : ℕ) (o : Operand) → IsSeen code k x → is_void code (type_id code x) ≡ false → ids x ≡ Some o
    → LeadsNear code lengths k below o × Stands (words_of code L o) (L.slot x) ws

-- what the calls keep that led to the function that runs at a place
pub record IsKept (code : List Instruction) (L : Rooms) (lengths : ℕ → ℕ → ℕ) (place : ℕ) (f : Frame) (fs : List Frame) (ws : List ℕ) : Type 0 where
  pub back : Stands (f.place ∷ L.slot f.result ∷ []) (L.frame (function_of code place)) ws
  pub laid : AreLaid code L lengths (f.place - 1) fs f.ids ws
  pub behind : L.ends (function_of code f.place) ≤ L.begins (function_of code place)

abbrev pub AreKept : List Instruction → Rooms → (ℕ → ℕ → ℕ) → ℕ → List Frame → List ℕ → Type 0
AreKept code L lengths place [] ws = Unit {0}
AreKept code L lengths place (f ∷ fs) ws = IsKept code L lengths place f fs ws × AreKept code L lengths f.place fs ws

-- what the variables hold of the functions that run
abbrev pub AreStored : List Instruction → Rooms → ℕ → List Frame → (ℕ → ℕ → Value) → List ℕ → Type 0
AreStored code L place below memory ws = (level x : ℕ) → level ≤ length below → is_local code x ≡ true
    → home_of code x ≡ function_at code place below level → Stands (flat (memory level x)) (L.room x) ws
