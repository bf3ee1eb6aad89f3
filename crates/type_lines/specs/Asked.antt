-- What lines ask of words, operators and attributes.
use Rattle.std.specs.Prelude.{ℕ, ◌+◌, ◌-◌, Bool, true, false, ◌&&◌, ◌||◌, not, cond, nat_eq, nat_lt, bytes_eq, codes, List, [], ◌∷◌, map, Option, Some, None}
use Rattle.slang_names.specs.declared.numbers.NumberKind.{NumberKind}
use Rattle.slang_names.specs.declared.numbers.NumberKind.TheVariants as nk
use Rattle.slang_tree.specs.declared.types.Builtin.{Builtin}
use Rattle.slang_tree.specs.declared.types.Builtin.TheVariants as w
use Rattle.slang_tree.specs.declared.expressions.BinaryOperator.{BinaryOperator}
use Rattle.slang_tree.specs.declared.expressions.BinaryOperator.TheVariants as o
use Rattle.slang_tree.specs.declared.statements.Attribute.{Attribute}
use Rattle.slang_tree.specs.declared.statements.AttributeNode.{AttributeNode}
use Rattle.slang_tree.specs.declared.statements.AttributeNode.TheVariants as a
use Rattle.slang_tree.specs.declared.statements.Literal.{Literal}
use Rattle.slang_core.specs.declared.types.Scalar.TheVariants as s
use Rattle.slang_core.specs.declared.types.TypeTerm.{TypeTerm}
use Rattle.slang_core.specs.declared.types.TypeTerm.TheVariants as ty
use Rattle.slang_core.specs.declared.bodies.BinaryOp.{BinaryOp}
use Rattle.slang_core.specs.declared.bodies.BinaryOp.TheVariants as b
use Rattle.type_lines.specs.declared.answers.OperatorKind.{OperatorKind}
use Rattle.type_lines.specs.declared.answers.OperatorKind.TheVariants as k
use Rattle.type_lines.specs.declared.answers.Use.{Use}
use Rattle.type_lines.specs.declared.answers.Use.TheVariants as u
use Rattle.type_lines.specs.declared.answers.Standing.{Standing}
use Rattle.type_lines.specs.declared.answers.Standing.TheVariants as st

abbrev pub builtin_type : Builtin → TypeTerm
builtin_type w.Void = ty.Void
builtin_type w.Bool = ty.Bool
builtin_type w.Int = ty.Int
builtin_type w.Int2 = ty.Vector s.Int 2
builtin_type w.Int3 = ty.Vector s.Int 3
builtin_type w.Int4 = ty.Vector s.Int 4
builtin_type w.Uint = ty.Uint
builtin_type w.Uint2 = ty.Vector s.Uint 2
builtin_type w.Uint3 = ty.Vector s.Uint 3
builtin_type w.Uint4 = ty.Vector s.Uint 4

abbrev pub operator_kind : BinaryOperator → OperatorKind
operator_kind o.Or = k.Or
operator_kind o.And = k.And
operator_kind o.BitOr = k.Arithmetic b.BitOr
operator_kind o.BitXor = k.Arithmetic b.BitXor
operator_kind o.BitAnd = k.Arithmetic b.BitAnd
operator_kind o.Equal = k.Equality b.Equal
operator_kind o.NotEqual = k.Equality b.NotEqual
operator_kind o.Less = k.Order b.Less
operator_kind o.Greater = k.Order b.Greater
operator_kind o.LessEqual = k.Order b.LessEqual
operator_kind o.GreaterEqual = k.Order b.GreaterEqual
operator_kind o.ShiftLeft = k.Shift b.ShiftLeft
operator_kind o.ShiftRight = k.Shift b.ShiftRight
operator_kind o.Add = k.Arithmetic b.Add
operator_kind o.Subtract = k.Arithmetic b.Subtract
operator_kind o.Multiply = k.Arithmetic b.Multiply
operator_kind o.Divide = k.Arithmetic b.Divide
operator_kind o.Remainder = k.Arithmetic b.Remainder

abbrev pub is_uint_number : NumberKind → Bool
is_uint_number nk.Int = false
is_uint_number nk.Uint = true

-- ---- roles

abbrev pub is_value : Use → Bool
is_value u.Value = true
is_value other = false

abbrev pub is_called : Use → Bool
is_called u.Called = true
is_called other = false

-- in parentheses a place or a buffer stays one, and a function or a type is neither called nor before a dot
abbrev pub inner_use : Use → Use
inner_use u.Value = u.Value
inner_use other = u.Indexed

-- where `void` is refused by itself
abbrev pub bars_void : Standing → Bool
bars_void st.Parameter = true
bars_void st.AliasRight = true
bars_void st.BufferData = true
bars_void other = false

abbrev pub is_global : Standing → Bool
is_global st.Global = true
is_global other = false

abbrev pub is_field : Standing → Bool
is_field st.Field = true
is_field other = false

-- ---- lists

abbrev pub is_empty : {A : Type 0} → List A → Bool
is_empty [] = true
is_empty (x ∷ xs) = false

-- ---- attributes

abbrev pub literals_of : List ℕ → AttributeNode → Option (List Literal)
literals_of name (a.Named n xs) = cond (bytes_eq n.name name) (Some xs) None
literals_of name other = None

abbrev pub or_next : {A : Type 0} → Option A → Option A → Option A
or_next (Some x) y = Some x
or_next None y = y

-- what stands in the parentheses of the first attribute of that name
abbrev pub attribute_named : List ℕ → List Attribute → Option (List Literal)
attribute_named name [] = None
attribute_named name (x ∷ xs) = or_next (literals_of name x.node) (attribute_named name xs)

abbrev pub is_there : {A : Type 0} → Option A → Bool
is_there (Some x) = true
is_there None = false

abbrev pub shader_word : List ℕ
shader_word = codes "shader"

abbrev pub numthreads_word : List ℕ
numthreads_word = codes "numthreads"

abbrev pub mutating_word : List ℕ
mutating_word = codes "mutating"

abbrev pub has_attribute : List ℕ → List Attribute → Bool
has_attribute name xs = is_there (attribute_named name xs)

-- a function that has an attribute of entries
abbrev pub has_entry_word : List Attribute → Bool
has_entry_word xs = has_attribute shader_word xs || has_attribute numthreads_word xs
