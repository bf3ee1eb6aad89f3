-- The buffers that an image names.
use Rattle.std.specs.Prelude.{◌≡◌, ◌⊎◌, ℕ, suc, ◌<◌, ◌≤◌, ◌&&◌, Bool, true, cond, nat_eq, List, [], ◌∷◌, ◌++◌, length, Option, Some, None, slice_get}
use Rattle.std.specs.List.{list_any}
use Rattle.spirv_words.specs.declared.opcodes.Op.{Op}
use Rattle.spirv_words.specs.declared.opcodes.Op.TheVariants.{Variable}
use Rattle.spirv_words.specs.declared.images.Instruction.{Instruction}
use Rattle.image_operands.specs.Marks.{is_buffer}
use Rattle.run_plans.specs.declared.base.Bound.{Bound}
use Rattle.run_plans.specs.Plans.{set_of, binding_of, needs}

-- the buffer of a variable
abbrev pub bound_of : List Instruction → ℕ → Bound
bound_of code x = record { set = set_of code x; binding = binding_of code x; words = needs code x }

abbrev pub bound_if : List Instruction → ℕ → Option Bound
bound_if code x = cond (is_buffer code x) (Some (bound_of code x)) None

abbrev pub listed : Option Bound → List Bound
listed None = []
listed (Some b) = b ∷ []

-- the buffer of an instruction, if it is the variable of one
abbrev pub bounds_at : List Instruction → Op → List ℕ → List Bound
bounds_at code Variable (t ∷ x ∷ rest) = listed (bound_if code x)
bounds_at code op os = []

abbrev pub bounds_in : List Instruction → List Instruction → List Bound
bounds_in code [] = []
bounds_in code (i ∷ is) = bounds_at code i.op i.operands ++ bounds_in code is

-- a buffer stands before another, by set and then by binding
abbrev pub IsBefore : Bound → Bound → Type 0
IsBefore a b = (a.set < b.set) ⊎ ((a.set ≡ b.set) × (a.binding < b.binding))

abbrev pub same_bound : Bound → Bound → Bool
same_bound a b = nat_eq a.set b.set && (nat_eq a.binding b.binding && nat_eq a.words b.words)

-- each buffer stands before the next
abbrev pub Ascends : List Bound → Type 0
Ascends bounds = (n : ℕ) (a b : Bound) → slice_get bounds n ≡ Some a → slice_get bounds (suc n) ≡ Some b → IsBefore a b

-- the buffers of all variables, each before the next, and no more than there are instructions
pub record AreBounds (code : List Instruction) (bounds : List Bound) : Type 0 where
  pub ascending : Ascends bounds
  pub few : length bounds ≤ length code
  pub each : (x : ℕ) → is_buffer code x ≡ true → list_any (same_bound (bound_of code x)) bounds ≡ true
  pub of : (p : Bound → Bool) → list_any p bounds ≡ true → (x : ℕ) × (is_buffer code x ≡ true) × (p (bound_of code x) ≡ true)
