-- Ground types: types in which nothing is left open.
use Rattle.std.specs.Prelude.{ℕ, zero, suc, Bool, true, false, not}
use Rattle.slang_names.specs.declared.names.Ref.{Ref}

mutual
  pub data Ground : Type 0 where
    Void : Ground
    Logical : Ground
    -- int or uint
    Scalar : (signed : Bool) → Ground
    Vector : (signed : Bool) (size : ℕ) → Ground
    ArrayOf : (count : ℕ) (of : Ground) → Ground
    StructOf : (name : Ref) (arguments : Arguments) → Ground
    -- data in a buffer, which a program may write where it says so
    Structured : (writable : Bool) (of : Ground) → Ground
    ConstantData : (of : Ground) → Ground
    Block : (of : Ground) → Ground
    -- the type of what no typed program has
    NoType : Ground

  -- what the parameters of a declaration stand for, in their order: types and numbers
  pub data Arguments : Type 0 where
    NoArgument : Arguments
    TypeArgument : (of : Ground) (rest : Arguments) → Arguments
    NumberArgument : (n : ℕ) (rest : Arguments) → Arguments

abbrev pub type_at : Arguments → ℕ → Ground
type_at NoArgument n = NoType
type_at (TypeArgument of rest) zero = of
type_at (TypeArgument of rest) (suc n) = type_at rest n
type_at (NumberArgument k rest) zero = NoType
type_at (NumberArgument k rest) (suc n) = type_at rest n

abbrev pub number_at : Arguments → ℕ → ℕ
number_at NoArgument n = 0
number_at (TypeArgument of rest) zero = 0
number_at (TypeArgument of rest) (suc n) = number_at rest n
number_at (NumberArgument k rest) zero = k
number_at (NumberArgument k rest) (suc n) = number_at rest n

-- the first so many
abbrev pub first_of : ℕ → Arguments → Arguments
first_of zero others = NoArgument
first_of (suc n) NoArgument = NoArgument
first_of (suc n) (TypeArgument of rest) = TypeArgument of (first_of n rest)
first_of (suc n) (NumberArgument k rest) = NumberArgument k (first_of n rest)

-- ---- what the reading of an operator asks of a type

-- int, or a vector of int
abbrev pub is_signed : Ground → Bool
is_signed (Scalar signed) = signed
is_signed (Vector signed n) = signed
is_signed t = false

abbrev pub is_logical : Ground → Bool
is_logical Logical = true
is_logical t = false

abbrev pub is_void : Ground → Bool
is_void Void = true
is_void t = false

-- int for uint and uint for int, also in a vector
abbrev pub converted_type : Ground → Ground
converted_type (Scalar signed) = Scalar (not signed)
converted_type (Vector signed n) = Vector (not signed) n
converted_type t = t

-- how many components a vector has; 0 for what is no vector
abbrev pub size_of : Ground → ℕ
size_of (Vector signed n) = n
size_of t = 0

-- the type of an element of an array, a vector or a structured buffer
abbrev pub element_type : Ground → Ground
element_type (Vector signed n) = Scalar signed
element_type (ArrayOf n of) = of
element_type (Structured writable of) = of
element_type t = NoType

-- buffers, and blocks of them
abbrev pub is_resource : Ground → Bool
is_resource (Structured writable of) = true
is_resource (ConstantData of) = true
is_resource (Block of) = true
is_resource t = false
