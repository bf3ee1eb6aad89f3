-- What a body of a core is read with, and what its parts are read to.
use Rattle.std.specs.Prelude.{ℕ, Bool, List, Option}
use Rattle.slang_names.specs.declared.names.Ref.{Ref}
use Rattle.shader_kernel.specs.Kernel as k
use Rattle.core_reading.specs.Ground.{Ground, Arguments}
use Rattle.core_reading.specs.Programs.{CoreProgram}

-- who is called: a function, and what its parameters stand for
pub record Target : Type 0 where
  pub function : Ref
  pub arguments : Arguments

-- the callee of a call: none where no function is there that could be called so
abbrev pub Callee : Type 0
Callee = Option Target

-- what a buffer of a program holds: the data of a global, the plain fields of a block, or one field of a block
pub data BufferName : Type 0 where
  OfGlobal : (global : Ref) → BufferName
  PlainFields : (global : Ref) → BufferName
  OfField : (global : Ref) (field : ℕ) → BufferName

-- the program; the number of each of its buffers; what the parameters of the body's declaration stand for; whether there is a
-- receiver; and the types of the receiver, the parameters and the locals
pub record Frame : Type 0 where
  pub program : CoreProgram
  pub buffer : BufferName → ℕ
  pub arguments : Arguments
  pub has_this : Bool
  pub locals : List Ground

-- an expression with its type
pub record Typed : Type 0 where
  pub of : Ground
  pub expr : k.Expr Callee Ground

-- a place with its type; or a block that was named as a whole, of which each buffer is one of its own
pub data ReadPlace : Type 0 where
  InPlace : (root : k.Root) (numbers : k.Numbers Callee Ground) (of : Ground) → ReadPlace
  InBlock : (global : Ref) (of : Ground) → ReadPlace

pub data ReadGiven : Type 0 where
  GivenValue : (x : Typed) → ReadGiven
  GivenPlace : (p : ReadPlace) → ReadGiven

-- a call with the type of its result
pub record ReadCall : Type 0 where
  pub of : Ground
  pub callee : Callee
  pub given : k.Givens Callee Ground

-- a statement, and whether it is a block of no statements
pub record ReadStat : Type 0 where
  pub is_empty : Bool
  pub stat : k.Stat Callee Ground
