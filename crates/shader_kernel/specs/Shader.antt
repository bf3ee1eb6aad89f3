-- A program of which each type and each function has a number.
use Rattle.std.specs.Prelude.{ℕ, Bool}
use Rattle.shader_kernel.specs.Meaning.{Program}

-- a type: one that every image has, or the array or struct with this number in the program's list
pub data NumberedType : Type 0 where
  Void : NumberedType
  Logical : NumberedType
  Scalar : (signed : Bool) → NumberedType
  Vector : (signed : Bool) (size : ℕ) → NumberedType
  Listed : (number : ℕ) → NumberedType

-- a program whose functions and types are numbers
abbrev pub Shader : Type 0
Shader = Program ℕ NumberedType
