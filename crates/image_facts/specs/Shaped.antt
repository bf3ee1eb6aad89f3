-- What the shape of a type is made of.
use Rattle.std.specs.Prelude.{◌≡◌, ℕ, ◌+◌, List, [], ◌∷◌, Some, drop}
use Rattle.spirv_words.specs.declared.images.Instruction.{Instruction}
use Rattle.spirv_words.specs.Machine.{Shape, Shapes, Repeated, Unbounded, Fields, NoField, Field}
use Rattle.flat_values.specs.Flat.{IsData}
use Rattle.image_lookup.specs.Lookups.{operands, operand}
use Rattle.image_declarations.specs.Decorations.{stride_of, offset_of}
use Rattle.image_facts.specs.Operands.{shape}

-- a vector or an array: so many elements of a shape, and their stride
pub record IsRepeated (code : List Instruction) (t count stride : ℕ) : Type 0 where
  pub of : Shape
  pub element : shape code (operand code t 1) ≡ Some of
  pub whole : shape code t ≡ Some (Repeated count stride of)

-- an array without length
pub record IsUnbounded (code : List Instruction) (t : ℕ) : Type 0 where
  pub of : Shape
  pub element : shape code (operand code t 1) ≡ Some of
  pub whole : shape code t ≡ Some (Unbounded (stride_of code t) of)

-- the members of a struct from a number on, by their types: each has its Offset and the shape of its type
abbrev pub AreFields : List Instruction → ℕ → ℕ → List ℕ → Shapes → Type 0
AreFields code t n [] NoField = Unit {0}
AreFields code t n (m ∷ ms) (Field offset of rest) = (offset ≡ offset_of code t n) × (shape code m ≡ Some of) × AreFields code t (n + 1) ms rest
AreFields code t n ms fs = ⊥

pub record IsFields (code : List Instruction) (t : ℕ) : Type 0 where
  pub fields : Shapes
  pub whole : shape code t ≡ Some (Fields fields)
  pub members : AreFields code t 0 (drop 1 (operands code t)) fields

-- a type that values have
pub record HasData (code : List Instruction) (t : ℕ) : Type 0 where
  pub form : Shape
  pub is : shape code t ≡ Some form
  pub plain : IsData form
