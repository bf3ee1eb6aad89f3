-- What is known of an instruction whose action is told: it fits, and its numbers stay below 2^32.
use Rattle.std.specs.Prelude.{◌≡◌, ℕ, ◌+◌, ◌^◌, ◌<◌, true, List, [], ◌∷◌, length, Some, is_some}
use Rattle.spirv_words.specs.declared.images.Instruction.{Instruction}
use Rattle.spirv_words.specs.Machine.{place_of}
use Rattle.image_lookup.specs.Lookups.{operand, is_value}
use Rattle.image_declarations.specs.Holdings.{is_data}
use Rattle.image_operands.specs.Memory.{is_pointer, chain_end}
use Rattle.image_operands.specs.Composites.{extract_end}
use Rattle.run_rooms.specs.Rooms.{Rooms, slot_size}
use Rattle.run_plans.specs.declared.kinds.Kind.{Kind}
use Rattle.run_plans.specs.declared.kinds.Kind.TheVariants.{Chain, Construct, Extract, Call}

-- how many words values have together
abbrev pub sizes : List Instruction → List ℕ → ℕ
sizes code [] = 0
sizes code (x ∷ xs) = slot_size code x + sizes code xs

-- indices lead from a pointer
pub record IsChained (code : List Instruction) (pointer : ℕ) (indices : List ℕ) : Type 0 where
  pub value : is_value code pointer ≡ true
  pub of_pointers : is_pointer code (operand code pointer 0) ≡ true
  pub leads : is_some (chain_end code (operand code (operand code pointer 0) 2) indices) ≡ true

-- a path leads from a composite to a part of a type
pub record IsExtracted (code : List Instruction) (t composite : ℕ) (path : List ℕ) : Type 0 where
  pub value : is_value code composite ≡ true
  pub whole : is_data code (operand code composite 0) ≡ true
  pub leads : extract_end code (operand code composite 0) path ≡ Some t

-- 32 bits tell the place behind the parameters of what is called
pub record IsCalled (code : List Instruction) (function : ℕ) (arguments : List ℕ) : Type 0 where
  pub near : (p : ℕ) → place_of code function 0 ≡ Some p → p + 1 + length arguments < 2 ^ 32

-- the same of an instruction of each kind
abbrev pub IsActed : List Instruction → Rooms → Kind → List ℕ → Type 0
IsActed code L Chain (t ∷ r ∷ pointer ∷ indices) = IsChained code pointer indices
IsActed code L Construct (t ∷ r ∷ values) = L.slot r + sizes code values < 2 ^ 32
IsActed code L Extract (t ∷ r ∷ composite ∷ path) = IsExtracted code t composite path
IsActed code L Call (t ∷ r ∷ function ∷ arguments) = IsCalled code function arguments
IsActed code L kind os = Unit {0}
