-- The kernel: one small language for bodies, in which each name is resolved and each operator knows the sign that it works on.
-- `C` says who is called, and `T` what a type is: a program that is read as it was checked, and one of which each instance has
-- a number, are written in it alike.
use Rattle.std.specs.Prelude.{ℕ, Bool, List}
use Rattle.slang_names.specs.declared.places.Mode.{Mode}

-- a number with the sign of its type, in two's complement; a bool; or the zero of a type
pub data Constant (T : Type 0) : Type 0 where
  Number : (signed : Bool) (n : ℕ) → Constant T
  Logical : (b : Bool) → Constant T
  Null : (of : T) → Constant T

-- Negate and Complement work on a word or on each word of a vector, Not on a bool. Convert keeps the bits.
pub data Unary : Type 0 where
  Negate : Unary
  Complement : Unary
  Not : Unary
  Convert : Unary

-- A sign says whether the operator works on ints. Same and Different compare bools or words, the others that compare only words;
-- all others work on two words, or on the words of two vectors one by one.
pub data Binary : Type 0 where
  Add : Binary
  Subtract : Binary
  Multiply : Binary
  Divide : (signed : Bool) → Binary
  Remainder : (signed : Bool) → Binary
  BitAnd : Binary
  BitOr : Binary
  BitXor : Binary
  ShiftLeft : Binary
  ShiftRight : (signed : Bool) → Binary
  Same : (logical : Bool) → Binary
  Different : (logical : Bool) → Binary
  Less : (signed : Bool) → Binary
  LessEqual : (signed : Bool) → Binary
  Greater : (signed : Bool) → Binary
  GreaterEqual : (signed : Bool) → Binary

-- what is made of values alone
pub data Node (T : Type 0) : Type 0 where
  One : (u : Unary) → Node T
  Two : (b : Binary) → Node T
  -- the part with this number: a field, or one component
  Part : (number : ℕ) → Node T
  -- a vector of the parts with these numbers
  Pick : (numbers : List ℕ) → Node T
  -- a vector of scalars and of the components of vectors: for each value how many components it has, and 0 for a scalar
  Spread : (sizes : List ℕ) → Node T
  -- a vector of one scalar, so many times
  Repeat : (count : ℕ) → Node T
  -- an array, a struct or a vector of values, and then of the zeros of these types
  Fill : (rest : List T) → Node T

-- what a place is in: a parameter or local of the call, by its number, or a buffer of the program
pub data Root : Type 0 where
  Local : (n : ℕ) → Root
  Buffer : (n : ℕ) → Root

mutual
  -- `of` is the type of the value
  pub data Expr (C T : Type 0) : Type 0 where
    Known : (c : Constant T) → Expr C T
    Pure : (node : Node T) (of : T) (parts : Exprs C T) → Expr C T
    Read : (p : Place C T) → Expr C T
    -- the element of a value at an index, whose type is int or uint
    Element : (of : T) (value : Expr C T) (signed : Bool) (index : Expr C T) → Expr C T
    -- and, or
    Short : (is_and : Bool) (a b : Expr C T) → Expr C T
    Choose : (of : T) (test first second : Expr C T) → Expr C T
    Call : (callee : C) (of : T) (given : Givens C T) → Expr C T

  pub data Exprs (C T : Type 0) : Type 0 where
    NoExpr : Exprs C T
    More : (e : Expr C T) (es : Exprs C T) → Exprs C T

  -- the numbers that lead to a part of what the root holds; the number of a member is a constant
  pub data Numbers (C T : Type 0) : Type 0 where
    NoNumber : Numbers C T
    Index : (signed : Bool) (e : Expr C T) (rest : Numbers C T) → Numbers C T

  -- a part of a local or of buffer data, of this type
  pub data Place (C T : Type 0) : Type 0 where
    At : (root : Root) (numbers : Numbers C T) (of : T) → Place C T

  -- what the parameters of a callee are given: a value, or a place that is written after the call, and that is read before it
  -- where the parameter is inout
  pub data Givens (C T : Type 0) : Type 0 where
    NoGiven : Givens C T
    Value : (e : Expr C T) (gs : Givens C T) → Givens C T
    Lent : (reads : Bool) (p : Place C T) (gs : Givens C T) → Givens C T

pub data Stat (C T : Type 0) : Type 0 where
  Skip : Stat C T
  Seq : (a b : Stat C T) → Stat C T
  -- the first value of a local, and an assignment
  Put : (p : Place C T) (e : Expr C T) → Stat C T
  -- an operator and a value change what a place holds; whether the value that is read is converted before, and the result after
  Change : (b : Binary) (before after : Bool) (p : Place C T) (e : Expr C T) → Stat C T
  If : (test : Expr C T) (a b : Stat C T) → Stat C T
  -- without an else
  When : (test : Expr C T) (a : Stat C T) → Stat C T
  Loop : (test : Expr C T) (step body : Stat C T) → Stat C T
  Return : Stat C T
  Give : (e : Expr C T) → Stat C T
  Break : Stat C T
  Continue : Stat C T
  Run : (callee : C) (given : Givens C T) → Stat C T

pub record Parameter (T : Type 0) : Type 0 where
  pub mode : Mode
  pub of : T

-- a function. A receiver is its first parameter; locals are numbered behind the parameters.
pub record Function (C T : Type 0) : Type 0 where
  pub parameters : List (Parameter T)
  -- whether it has a result
  pub gives : Bool
  pub locals : List T
  pub body : Stat C T
