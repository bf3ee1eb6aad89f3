-- How types are walked along with their shapes.
use Rattle.std.specs.Prelude.{◌≡◌, ℕ, ◌+◌, List, [], ◌∷◌, Option, Some, drop, slice_get, take}
use Rattle.spirv_words.specs.declared.images.Instruction.{Instruction}
use Rattle.spirv_words.specs.Machine.{Shape, if_some}
use Rattle.flat_values.specs.Flat.{width}
use Rattle.flat_values.specs.Pieces.{At, piece_of, piece}
use Rattle.image_lookup.specs.Lookups.{operands}
use Rattle.image_facts.specs.Operands.{shape}

-- there is one
pub record IsThere (o : Option ℕ) : Type 0 where
  pub it : ℕ
  pub is : o ≡ Some it

-- how many words the values of a type have
abbrev pub width_at : List Instruction → ℕ → ℕ
width_at code t = if_some (shape code t) 0 width

-- how many words the values of these types have together
abbrev pub total_width : List Instruction → List ℕ → ℕ
total_width code [] = 0
total_width code (t ∷ ts) = width_at code t + total_width code ts

-- a struct's member with a number is of a type, and stands behind those before it
pub record IsMember (code : List Instruction) (t number part place : ℕ) : Type 0 where
  pub type : slice_get (drop 1 (operands code t)) number ≡ Some part
  pub behind : place ≡ total_width code (take number (drop 1 (operands code t)))

-- the part of a shape with a number is of this type's shape, and stands so far behind the first word
pub record IsPartOf (code : List Instruction) (s : Shape) (number part place : ℕ) : Type 0 where
  pub form : Shape
  pub is : shape code part ≡ Some form
  pub at : (from : ℕ) → piece_of s number from ≡ At (from + place) form

abbrev pub IsPart : List Instruction → ℕ → ℕ → ℕ → ℕ → Type 0
IsPart code t number part place = (s : Shape) → shape code t ≡ Some s → IsPartOf code s number part place

-- a type has a shape
abbrev pub HasShape : List Instruction → ℕ → Type 0
HasShape code t = (s : Shape) × (shape code t ≡ Some s)

pub record IsPathOf (code : List Instruction) (s : Shape) (path : List ℕ) (part place : ℕ) : Type 0 where
  pub form : Shape
  pub is : shape code part ≡ Some form
  pub at : (from : ℕ) → piece s path from ≡ At (from + place) form

-- the same where these numbers of the path are still to go
pub record IsOnPath (code : List Instruction) (s : Shape) (path : List ℕ) (part place : ℕ) (rest : List ℕ) : Type 0 where
  pub form : Shape
  pub is : shape code part ≡ Some form
  pub at : (from : ℕ) → piece s path from ≡ piece form rest (from + place)

-- a path of numbers leads from a type's shape so far behind the first word
abbrev pub IsPath : List Instruction → ℕ → List ℕ → ℕ → ℕ → Type 0
IsPath code t path part place = (s : Shape) → shape code t ≡ Some s → IsPathOf code s path part place
