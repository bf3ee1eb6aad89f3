-- Which words are types, and which marks are operators.
use Rattle.std.specs.Prelude.{ℕ, Option, Some, None}
use Rattle.slang_tree.specs.declared.types.Builtin.{Builtin}
use Rattle.slang_tree.specs.declared.types.Builtin.TheVariants as b
use Rattle.slang_tree.specs.declared.types.Resource.{Resource}
use Rattle.slang_tree.specs.declared.types.Resource.TheVariants as r
use Rattle.slang_tree.specs.declared.expressions.UnaryOperator.{UnaryOperator}
use Rattle.slang_tree.specs.declared.expressions.UnaryOperator.TheVariants as u
use Rattle.slang_tree.specs.declared.expressions.BinaryOperator.{BinaryOperator}
use Rattle.slang_tree.specs.declared.expressions.BinaryOperator.TheVariants as o
use Rattle.slang_tokens.specs.declared.tokens.Mark.{Mark}
use Rattle.slang_tokens.specs.declared.tokens.Mark.TheVariants as m
use Rattle.slang_tokens.specs.declared.tokens.Word.{Word}
use Rattle.slang_tokens.specs.declared.tokens.Word.TheVariants as w

-- the type that has that word
abbrev pub builtin_of : Word → Option Builtin
builtin_of w.Void = Some b.Void
builtin_of w.Bool = Some b.Bool
builtin_of w.Int = Some b.Int
builtin_of w.Int2 = Some b.Int2
builtin_of w.Int3 = Some b.Int3
builtin_of w.Int4 = Some b.Int4
builtin_of w.Uint = Some b.Uint
builtin_of w.Uint2 = Some b.Uint2
builtin_of w.Uint3 = Some b.Uint3
builtin_of w.Uint4 = Some b.Uint4
builtin_of _ = None

-- the kind of resource that has that word
abbrev pub resource_of : Word → Option Resource
resource_of w.StructuredBuffer = Some r.StructuredBuffer
resource_of w.RwStructuredBuffer = Some r.RwStructuredBuffer
resource_of w.ConstantBuffer = Some r.ConstantBuffer
resource_of w.ParameterBlock = Some r.ParameterBlock
resource_of _ = None

-- the operator before an operand that is spelled by that mark
abbrev pub unary_of : Mark → Option UnaryOperator
unary_of m.Minus = Some u.Minus
unary_of m.Plus = Some u.Plus
unary_of m.Not = Some u.Not
unary_of m.Tilde = Some u.Complement
unary_of _ = None

-- the operator between operands that is spelled by that mark alone; `>=` and `>>` are two marks
abbrev pub binary_of : Mark → Option BinaryOperator
binary_of m.OrOr = Some o.Or
binary_of m.AndAnd = Some o.And
binary_of m.Or = Some o.BitOr
binary_of m.Caret = Some o.BitXor
binary_of m.And = Some o.BitAnd
binary_of m.EqualEqual = Some o.Equal
binary_of m.NotEqual = Some o.NotEqual
binary_of m.Less = Some o.Less
binary_of m.Greater = Some o.Greater
binary_of m.LessEqual = Some o.LessEqual
binary_of m.ShiftLeft = Some o.ShiftLeft
binary_of m.Plus = Some o.Add
binary_of m.Minus = Some o.Subtract
binary_of m.Star = Some o.Multiply
binary_of m.Slash = Some o.Divide
binary_of m.Percent = Some o.Remainder
binary_of _ = None

-- how loosely an operator binds
abbrev pub level_of : BinaryOperator → ℕ
level_of o.Or = 9
level_of o.And = 8
level_of o.BitOr = 7
level_of o.BitXor = 6
level_of o.BitAnd = 5
level_of o.Equal = 4
level_of o.NotEqual = 4
level_of o.Less = 3
level_of o.Greater = 3
level_of o.LessEqual = 3
level_of o.GreaterEqual = 3
level_of o.ShiftLeft = 2
level_of o.ShiftRight = 2
level_of o.Add = 1
level_of o.Subtract = 1
level_of o.Multiply = 0
level_of o.Divide = 0
level_of o.Remainder = 0
