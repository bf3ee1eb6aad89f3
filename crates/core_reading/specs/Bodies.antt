-- What a body of a core says, in the kernel. The core leaves out the type of a node where it follows from its parts: here each
-- operator gets the sign that it works on, each number of a place its sign, and each node its type.
use Rattle.std.specs.Prelude.{ℕ, zero, suc, ◌+◌, Bool, true, false, not, cond, List, [], ◌∷◌, length, map, drop, replicate, Option, Some, None, slice_get}
use Rattle.slang_names.specs.declared.names.Ref.{Ref}
use Rattle.slang_names.specs.declared.places.Mode.{Mode}
use Rattle.slang_names.specs.declared.places.Mode.TheVariants as mode
use Rattle.slang_core.specs.declared.bodies.Call.{Call, fold-Call}
use Rattle.slang_core.specs.declared.bodies.Expr.{Expr, fold-Expr}
use Rattle.slang_core.specs.declared.bodies.PlaceTerm.{PlaceTerm, fold-PlaceTerm}
use Rattle.slang_core.specs.declared.bodies.Stat.{Stat, fold-Stat}
use Rattle.slang_core.specs.declared.bodies.Call.TheOpen.{Call-F, Expr-F, Given-F, PlaceTerm-F}
use Rattle.slang_core.specs.declared.bodies.Call.TheOpen as core
use Rattle.slang_core.specs.declared.bodies.Stat.TheOpen.{Stat-F}
use Rattle.slang_core.specs.declared.bodies.Stat.TheOpen as stat
use Rattle.slang_core.specs.declared.bodies.BinaryOp.{BinaryOp}
use Rattle.slang_core.specs.declared.bodies.BinaryOp.TheVariants as op
use Rattle.slang_core.specs.declared.bodies.UnaryOp.{UnaryOp}
use Rattle.slang_core.specs.declared.bodies.UnaryOp.TheVariants as un
use Rattle.spirv_words.specs.Machine.{if_some}
use Rattle.shader_kernel.specs.Kernel as k
use Rattle.core_reading.specs.Ground.{Ground, Logical, Scalar, Vector, ArrayOf, StructOf, Structured, ConstantData, Block, NoType, Arguments, is_signed, is_logical, converted_type, size_of, element_type, is_resource, NoArgument}
use Rattle.core_reading.specs.Programs.{CoreProgram, Defined, function_of, global_of, modes_of}
use Rattle.core_reading.specs.Types.{ground_type, ground_arguments, value_in, fields_of, field_type, or_no_type}
use Rattle.core_reading.specs.Frames.{Target, Callee, OfGlobal, PlainFields, OfField, Frame, Typed, ReadPlace, InPlace, InBlock, ReadGiven, GivenValue, GivenPlace, ReadCall, ReadStat}

-- ---- operators

abbrev pub unary_of : UnaryOp → k.Unary
unary_of un.Negate = k.Negate
unary_of un.Complement = k.Complement
unary_of un.Not = k.Not

-- where the left operand has this type: a shift has its sign from what is shifted, all others have operands of one type
abbrev pub binary_of : BinaryOp → Ground → k.Binary
binary_of op.Add t = k.Add
binary_of op.Subtract t = k.Subtract
binary_of op.Multiply t = k.Multiply
binary_of op.Divide t = k.Divide (is_signed t)
binary_of op.Remainder t = k.Remainder (is_signed t)
binary_of op.BitAnd t = k.BitAnd
binary_of op.BitOr t = k.BitOr
binary_of op.BitXor t = k.BitXor
binary_of op.ShiftLeft t = k.ShiftLeft
binary_of op.ShiftRight t = k.ShiftRight (is_signed t)
binary_of op.Equal t = k.Same (is_logical t)
binary_of op.NotEqual t = k.Different (is_logical t)
binary_of op.Less t = k.Less (is_signed t)
binary_of op.LessEqual t = k.LessEqual (is_signed t)
binary_of op.Greater t = k.Greater (is_signed t)
binary_of op.GreaterEqual t = k.GreaterEqual (is_signed t)

-- a comparison gives a bool, each other operator what its left operand is
abbrev pub binary_type : BinaryOp → Ground → Ground
binary_type op.Equal t = Logical
binary_type op.NotEqual t = Logical
binary_type op.Less t = Logical
binary_type op.LessEqual t = Logical
binary_type op.Greater t = Logical
binary_type op.GreaterEqual t = Logical
binary_type other t = t

-- ---- small parts

abbrev pub typed : Ground → k.Expr Callee Ground → Typed
typed t e = record { of = t; expr = e }

-- a value of values
abbrev pub pure : k.Node Ground → Ground → k.Exprs Callee Ground → Typed
pure node t es = typed t (k.Pure node t es)

abbrev pub one : Typed → k.Exprs Callee Ground
one x = k.More x.expr k.NoExpr

abbrev pub all_of : List Typed → k.Exprs Callee Ground
all_of [] = k.NoExpr
all_of (x ∷ xs) = k.More x.expr (all_of xs)

-- a vector's component or components
abbrev pub swizzled : List ℕ → Typed → Typed
swizzled (n ∷ []) x = pure (k.Part n) (element_type x.of) (one x)
swizzled ns x = pure (k.Pick ns) (Vector (is_signed x.of) (length ns)) (one x)

-- the types of the parts of a whole behind its first ones
abbrev pub types_behind : CoreProgram → Ground → ℕ → List Ground
types_behind p (Vector signed size) n = drop n (replicate size (Scalar signed))
types_behind p (ArrayOf count of) n = drop n (replicate count of)
types_behind p (StructOf r given) n = drop n (fields_of p (StructOf r given))
types_behind p t n = []

-- a list gives the first parts, and the others are zero; one without items is the zero of its type
abbrev pub listed : CoreProgram → Ground → List Typed → Typed
listed p t [] = typed t (k.Known (k.Null t))
listed p t (x ∷ xs) = pure (k.Fill (types_behind p t (length (x ∷ xs)))) t (all_of (x ∷ xs))

-- ---- places

abbrev pub no_numbers : k.Numbers Callee Ground
no_numbers = k.NoNumber

-- numbers, and one more behind them
abbrev pub and_number : k.Numbers Callee Ground → Bool → k.Expr Callee Ground → k.Numbers Callee Ground
and_number k.NoNumber signed e = k.Index signed e k.NoNumber
and_number (k.Index s x rest) signed e = k.Index s x (and_number rest signed e)

-- a member's number is a constant of type uint
abbrev pub and_member : k.Numbers Callee Ground → ℕ → k.Numbers Callee Ground
and_member numbers n = and_number numbers false (k.Known (k.Number false n))

-- the data of a buffer is the first member of what wraps it
abbrev pub data_of : ℕ → Ground → ReadPlace
data_of b t = InPlace (k.Buffer b) (and_member no_numbers 0) t

-- how many of the first so many types are of plain data
abbrev pub plain_among : ℕ → List Ground → ℕ
plain_among zero ts = 0
plain_among (suc n) [] = 0
plain_among (suc n) (t ∷ ts) = cond (is_resource t) (plain_among n ts) (plain_among n ts + 1)

module _ (f : Frame) where
  -- a global by its type: a buffer, or a block. Constant data is named by the type of the data.
  abbrev pub global_place : Ref → Ground → ReadPlace
  global_place r (Structured writable of) = data_of (f.buffer (OfGlobal r)) (Structured writable of)
  global_place r (ConstantData of) = data_of (f.buffer (OfGlobal r)) of
  global_place r (Block of) = InBlock r of
  global_place r t = data_of (f.buffer (OfGlobal r)) NoType

  -- a global has no parameters, so its type is read without arguments
  abbrev pub type_of_global : Ref → Ground
  type_of_global r = if_some (global_of f.program r) NoType (λ g. ground_type NoArgument g.of)

  -- a field of a block: a buffer of its own, or one of the plain fields, which stand together in one buffer
  abbrev pub block_field : Ref → Ground → ℕ → Ground → ReadPlace
  block_field r of n (Structured writable t) = data_of (f.buffer (OfField r n)) (Structured writable t)
  block_field r of n (ConstantData t) = data_of (f.buffer (OfField r n)) t
  block_field r of n t = InPlace (k.Buffer (f.buffer (PlainFields r))) (and_member no_numbers (plain_among n (fields_of f.program of))) t

  abbrev pub field_place : ℕ → ReadPlace → ReadPlace
  field_place n (InPlace root numbers of) = InPlace root (and_member numbers n) (field_type f.program of n)
  field_place n (InBlock r of) = block_field r of n (field_type f.program of n)

  abbrev pub component_place : ℕ → ReadPlace → ReadPlace
  component_place n (InPlace root numbers of) = InPlace root (and_member numbers n) (element_type of)
  component_place n (InBlock r of) = InBlock r NoType

  -- the index is evaluated where it stands, and it has the sign of its type
  abbrev pub element_place : ReadPlace → Typed → ReadPlace
  element_place (InPlace root numbers of) i = InPlace root (and_number numbers (is_signed i.of) i.expr) (element_type of)
  element_place (InBlock r of) i = InBlock r NoType

  -- a block as a whole has plain fields alone
  abbrev pub place_of : ReadPlace → k.Place Callee Ground
  place_of (InPlace root numbers of) = k.At root numbers of
  place_of (InBlock r of) = k.At (k.Buffer (f.buffer (PlainFields r))) no_numbers of

  abbrev pub type_of_place : ReadPlace → Ground
  type_of_place (InPlace root numbers of) = of
  type_of_place (InBlock r of) = of

  -- parameters and locals are numbered without the receiver, which stands before them
  abbrev pub number_of_local : ℕ → ℕ
  number_of_local n = cond f.has_this (n + 1) n

  abbrev pub local_place : ℕ → ReadPlace
  local_place n = InPlace (k.Local n) no_numbers (or_no_type (slice_get f.locals n))

  -- ---- calls

  -- a value for a parameter that is copied in, a place for one that is copied back
  abbrev pub fits : List Mode → List ReadGiven → Bool
  fits [] [] = true
  fits (mode.In ∷ ms) (GivenValue x ∷ gs) = fits ms gs
  fits (mode.Out ∷ ms) (GivenPlace p ∷ gs) = fits ms gs
  fits (mode.InOut ∷ ms) (GivenPlace p ∷ gs) = fits ms gs
  fits ms gs = false

  abbrev pub is_out : List Mode → Bool
  is_out (mode.Out ∷ ms) = true
  is_out ms = false

  -- a place is read before the call unless its parameter is copied out alone
  abbrev pub givens : List Mode → List ReadGiven → k.Givens Callee Ground
  givens ms [] = k.NoGiven
  givens ms (GivenValue x ∷ gs) = k.Value x.expr (givens (drop 1 ms) gs)
  givens ms (GivenPlace p ∷ gs) = k.Lent (not (is_out ms)) (place_of p) (givens (drop 1 ms) gs)

  -- a call of a function that is there, with what its parameters stand for; one with other arguments than it takes is of none
  abbrev pub direct_call : Option Defined → Ref → Arguments → List ReadGiven → ReadCall
  direct_call None r arguments gs = record { of = NoType; callee = None; given = givens [] gs }
  direct_call (Some d) r arguments gs =
      let modes = modes_of d.head in
      let target : Target = record { function = r; arguments = arguments } in
      record { of = ground_type arguments d.head.result; callee = cond (fits modes gs) (Some target) None; given = givens modes gs }

  -- A call by evidence finds its function by what the type conforms with; in a program without parameters there is none.
  abbrev pub call_layer : Call-F ReadCall Typed ReadGiven ReadPlace → ReadCall
  call_layer (core.Direct r args bounds gs) = direct_call (function_of f.program r) r (ground_arguments f.arguments args) gs
  call_layer (core.Required e r name gs) = record { of = NoType; callee = None; given = givens [] gs }

  abbrev pub given_layer : Given-F ReadCall Typed ReadGiven ReadPlace → ReadGiven
  given_layer (core.Expr x) = GivenValue x
  given_layer (core.Place p) = GivenPlace p

  -- ---- expressions and places

  abbrev pub expr_layer : Expr-F ReadCall Typed ReadGiven ReadPlace → Typed
  -- numbers as they are spelled, an int in two's complement; bools
  expr_layer (core.Int n) = typed (Scalar true) (k.Known (k.Number true n))
  expr_layer (core.Uint n) = typed (Scalar false) (k.Known (k.Number false n))
  expr_layer core.False = typed Logical (k.Known (k.Logical false))
  expr_layer core.True = typed Logical (k.Known (k.Logical true))
  -- what a place holds: its own scalars are read, no others
  expr_layer (core.Read p) = typed (type_of_place p) (k.Read (place_of p))
  -- an operator on one value has the type of that value
  expr_layer (core.Unary o x) = pure (k.One (unary_of o)) x.of (one x)
  -- two values, the left one first; the sign is that of the left one's type
  expr_layer (core.Binary o x y) = pure (k.Two (binary_of o x.of)) (binary_type o x.of) (k.More x.expr (one y))
  -- the right one is evaluated only where the left one does not decide
  expr_layer (core.And x y) = typed Logical (k.Short true x.expr y.expr)
  expr_layer (core.Or x y) = typed Logical (k.Short false x.expr y.expr)
  -- of the last two the one that is chosen is evaluated; both have one type
  expr_layer (core.Choose x y z) = typed y.of (k.Choose y.of x.expr y.expr z.expr)
  -- the same bits, as uint or as int
  expr_layer (core.Convert x) = pure (k.One k.Convert) (converted_type x.of) (one x)
  -- the components of scalars and vectors in a row
  expr_layer (core.Vector t xs) = pure (k.Spread (map (λ x. size_of x.of) xs)) (ground_type f.arguments t) (all_of xs)
  -- one scalar as each component
  expr_layer (core.Repeat n x) = pure (k.Repeat n) (Vector (is_signed x.of) n) (one x)
  -- components of a vector that is no place, or of one that is read whole
  expr_layer (core.Swizzle ns x) = swizzled ns x
  -- a field of a struct that is no place
  expr_layer (core.Field n x) = pure (k.Part n) (field_type f.program x.of n) (one x)
  -- the value, then the index, then the element of the value
  expr_layer (core.Element x y) = typed (element_type x.of) (k.Element (element_type x.of) x.expr (is_signed y.of) y.expr)
  -- the result of a call
  expr_layer (core.Call c) = typed c.of (k.Call c.callee c.of c.given)
  -- the parts that are given, and zeros
  expr_layer (core.List t xs) = listed f.program (ground_type f.arguments t) xs
  expr_layer (core.Zero t) = typed (ground_type f.arguments t) (k.Known (k.Null (ground_type f.arguments t)))
  -- a number that a parameter of the declaration stands for, as an int
  expr_layer (core.Fixed v) = typed (Scalar true) (k.Known (k.Number true (value_in f.arguments v)))

  abbrev pub place_layer : PlaceTerm-F ReadCall Typed ReadGiven ReadPlace → ReadPlace
  -- a parameter or local, numbered without the receiver; the receiver itself, which no local stands for where there is none
  place_layer (core.Local n) = local_place (number_of_local n)
  place_layer core.This = cond f.has_this (local_place 0) (local_place (length f.locals))
  -- a buffer or a block of the program
  place_layer (core.Global r) = global_place r (type_of_global r)
  -- a part of a place, with the numbers that lead to the place before its own
  place_layer (core.FieldOf n p) = field_place n p
  place_layer (core.Component n p) = component_place n p
  place_layer (core.ElementOf p x) = element_place p x

  abbrev pub read_expr : Expr → Typed
  read_expr = fold-Expr ReadCall Typed ReadGiven ReadPlace call_layer expr_layer given_layer place_layer

  abbrev pub read_place : PlaceTerm → ReadPlace
  read_place = fold-PlaceTerm ReadCall Typed ReadGiven ReadPlace call_layer expr_layer given_layer place_layer

  abbrev pub read_call : Call → ReadCall
  read_call = fold-Call ReadCall Typed ReadGiven ReadPlace call_layer expr_layer given_layer place_layer

  -- ---- statements

  -- statements one after another
  abbrev pub in_order : List ReadStat → k.Stat Callee Ground
  in_order [] = k.Skip
  in_order (s ∷ ss) = k.Seq s.stat (in_order ss)

  abbrev pub no_statement : List ReadStat → Bool
  no_statement [] = true
  no_statement (s ∷ ss) = false

  abbrev pub some : k.Stat Callee Ground → ReadStat
  some s = record { is_empty = false; stat = s }

  -- the type that an operator of a change works on
  abbrev pub read_type : Bool → Ground → Ground
  read_type is_converted t = cond is_converted (converted_type t) t

  abbrev pub if_stat : k.Expr Callee Ground → ReadStat → ReadStat → k.Stat Callee Ground
  if_stat test a b = cond b.is_empty (k.When test a.stat) (k.If test a.stat b.stat)

  abbrev pub stat_layer : Stat-F ReadStat → ReadStat
  -- statements in their order
  stat_layer (stat.Block ss) = record { is_empty = no_statement ss; stat = in_order ss }
  -- the first value of a local, each time that the statement is come to
  stat_layer (stat.Local n x) = some (k.Put (place_of (local_place (number_of_local n))) (read_expr x).expr)
  -- the indices of the place, the value, the write
  stat_layer (stat.Assign p x) = some (k.Put (place_of (read_place p)) (read_expr x).expr)
  -- the indices, the read and its conversion, the value, the operator, a conversion back, the write. The operator works on the
  -- type that the place has after its conversion.
  stat_layer (stat.Change o c p x) =
      some (k.Change (binary_of o (read_type c.read (type_of_place (read_place p)))) c.read c.result (place_of (read_place p)) (read_expr x).expr)
  -- an else that is a block of no statements is none
  stat_layer (stat.If x s t) = some (if_stat (read_expr x).expr s t)
  -- the condition, and where it is true the body, the step, and again
  stat_layer (stat.Loop x step body) = some (k.Loop (read_expr x).expr step.stat body.stat)
  -- out of the function, without and with its result; out of the loop; on to the loop's step
  stat_layer stat.Return = some k.Return
  stat_layer (stat.ReturnValue x) = some (k.Give (read_expr x).expr)
  stat_layer stat.Break = some k.Break
  stat_layer stat.Continue = some k.Continue
  -- a call for what it does; its result, if it has one, is let go
  stat_layer (stat.Run c) = some (k.Run (read_call c).callee (read_call c).given)

  abbrev pub read_stat : Stat → ReadStat
  read_stat = fold-Stat ReadStat stat_layer

  -- the statements of a body
  abbrev pub read_stats : List Stat → k.Stat Callee Ground
  read_stats ss = in_order (map read_stat ss)
