-- What the rules of the language ask of a type.
use Rattle.std.specs.Prelude.{ℕ, ◌+◌, Bool, true, false, ◌&&◌, not, cond, nat_eq, bytes_eq, List, [], ◌∷◌, sum, Option, Some, None}
use Rattle.slang_names.specs.declared.names.Ref.{Ref}
use Rattle.slang_names.specs.declared.places.Value.{Value}
use Rattle.slang_names.specs.declared.places.Value.TheVariants as v
use Rattle.slang_core.specs.declared.types.Scalar.{Scalar}
use Rattle.slang_core.specs.declared.types.Scalar.TheVariants as s
use Rattle.slang_core.specs.declared.types.TypeTerm.{TypeTerm, fold-TypeTerm, out-TypeTerm}
use Rattle.slang_core.specs.declared.types.TypeTerm.TheVariants as ty
use Rattle.slang_core.specs.declared.types.Arg.{Arg, fold-Arg, out-Arg}
use Rattle.slang_core.specs.declared.types.Arg.TheOpen.{TypeTerm-F, Arg-F}
use Rattle.slang_core.specs.declared.types.Arg.TheOpen as t
use Rattle.type_terms.specs.declared.typings.Numeric.{Numeric}

-- ---- questions about the outermost word of a type

abbrev pub void_layer : TypeTerm-F Arg TypeTerm → Bool
void_layer t.Void = true
void_layer other = false

abbrev pub is_void : TypeTerm → Bool
is_void x = void_layer (out-TypeTerm x)

abbrev pub bool_layer : TypeTerm-F Arg TypeTerm → Bool
bool_layer t.Bool = true
bool_layer other = false

abbrev pub is_bool : TypeTerm → Bool
is_bool x = bool_layer (out-TypeTerm x)

abbrev pub resource_layer : TypeTerm-F Arg TypeTerm → Bool
resource_layer (t.StructuredBuffer x) = true
resource_layer (t.RwStructuredBuffer x) = true
resource_layer (t.ConstantBuffer x) = true
resource_layer (t.ParameterBlock x) = true
resource_layer other = false

-- buffers and blocks
abbrev pub is_resource : TypeTerm → Bool
is_resource x = resource_layer (out-TypeTerm x)

abbrev pub read_only_layer : TypeTerm-F Arg TypeTerm → Bool
read_only_layer (t.RwStructuredBuffer x) = false
read_only_layer other = true

-- all resources but RWStructuredBuffer
abbrev pub is_read_only : TypeTerm → Bool
is_read_only x = read_only_layer (out-TypeTerm x)

abbrev pub struct_layer : TypeTerm-F Arg TypeTerm → Option Ref
struct_layer (t.Struct r args) = Some r
struct_layer other = None

-- the struct that it is
abbrev pub struct_of : TypeTerm → Option Ref
struct_of x = struct_layer (out-TypeTerm x)

-- ---- numbers and vectors

abbrev pub is_uint : Scalar → Bool
is_uint s.Int = false
is_uint s.Uint = true

abbrev pub scalar_of : Bool → Scalar
scalar_of true = s.Uint
scalar_of false = s.Int

abbrev pub number_type : Bool → TypeTerm
number_type true = ty.Uint
number_type false = ty.Int

abbrev pub numeric : Bool → ℕ → Numeric
numeric u n = record { is_unsigned = u; size = n }

abbrev pub numeric_layer : TypeTerm-F Arg TypeTerm → Option Numeric
numeric_layer t.Int = Some (numeric false 1)
numeric_layer t.Uint = Some (numeric true 1)
numeric_layer (t.Vector s n) = Some (numeric (is_uint s) n)
numeric_layer other = None

-- int, uint and vectors of them as a sign and a size
abbrev pub numeric_of : TypeTerm → Option Numeric
numeric_of x = numeric_layer (out-TypeTerm x)

-- the type of that sign and size
abbrev pub type_of_numeric : Numeric → TypeTerm
type_of_numeric n = cond (nat_eq n.size 1) (number_type n.is_unsigned) (ty.Vector (scalar_of n.is_unsigned) n.size)

abbrev pub one_number : Option Numeric → Bool
one_number (Some n) = nat_eq n.size 1
one_number None = false

-- int or uint
abbrev pub is_whole : TypeTerm → Bool
is_whole x = one_number (numeric_of x)

-- ---- what is indexed

abbrev pub length_in : Value → Option ℕ
length_in (v.Number n) = Some n
length_in (v.Parameter n) = None

abbrev pub elements_layer : TypeTerm-F Arg TypeTerm → Option (TypeTerm × Option ℕ)
elements_layer (t.Array e n) = Some (e, length_in n)
elements_layer (t.Vector s n) = Some (number_type (is_uint s), Some n)
elements_layer (t.StructuredBuffer e) = Some (e, None)
elements_layer (t.RwStructuredBuffer e) = Some (e, None)
elements_layer other = None

-- the type of an element, and how many there are where the type says it
abbrev pub elements : TypeTerm → Option (TypeTerm × Option ℕ)
elements x = elements_layer (out-TypeTerm x)

-- ---- how many nodes

abbrev pub term_nodes : TypeTerm-F ℕ ℕ → ℕ
term_nodes (t.Array x n) = x + 1
term_nodes (t.Struct r args) = sum args + 1
term_nodes (t.Projection x r n) = x + 1
term_nodes (t.StructuredBuffer x) = x + 1
term_nodes (t.RwStructuredBuffer x) = x + 1
term_nodes (t.ConstantBuffer x) = x + 1
term_nodes (t.ParameterBlock x) = x + 1
term_nodes other = 1

abbrev pub arg_nodes : Arg-F ℕ ℕ → ℕ
arg_nodes (t.Term x) = x
arg_nodes (t.Fixed n) = 0

abbrev pub nodes : TypeTerm → ℕ
nodes = fold-TypeTerm ℕ ℕ arg_nodes term_nodes

abbrev pub nodes_of_arg : Arg → ℕ
nodes_of_arg = fold-Arg ℕ ℕ arg_nodes term_nodes

-- ---- whether two types are one

abbrev pub same_ref : Ref → Ref → Bool
same_ref a b = bytes_eq a.module b.module && bytes_eq a.path b.path

abbrev pub same_value : Value → Value → Bool
same_value (v.Number m) (v.Number n) = nat_eq m n
same_value (v.Parameter m) (v.Parameter n) = nat_eq m n
same_value a b = false

abbrev pub same_scalar : Scalar → Scalar → Bool
same_scalar s.Int s.Int = true
same_scalar s.Uint s.Uint = true
same_scalar a b = false

abbrev pub all_same : List (Arg → Bool) → List Arg → Bool
all_same [] [] = true
all_same (f ∷ fs) (x ∷ xs) = f x && all_same fs xs
all_same fs xs = false

abbrev pub same_layer : TypeTerm-F (Arg → Bool) (TypeTerm → Bool) → TypeTerm-F Arg TypeTerm → Bool
same_layer t.Void t.Void = true
same_layer t.Bool t.Bool = true
same_layer t.Int t.Int = true
same_layer t.Uint t.Uint = true
same_layer (t.Vector a m) (t.Vector b n) = same_scalar a b && nat_eq m n
same_layer (t.Array f m) (t.Array x n) = f x && same_value m n
same_layer (t.Struct q fs) (t.Struct r xs) = same_ref q r && all_same fs xs
same_layer (t.Parameter m) (t.Parameter n) = nat_eq m n
same_layer (t.Projection f q m) (t.Projection x r n) = f x && (same_ref q r && bytes_eq m n)
same_layer (t.StructuredBuffer f) (t.StructuredBuffer x) = f x
same_layer (t.RwStructuredBuffer f) (t.RwStructuredBuffer x) = f x
same_layer (t.ConstantBuffer f) (t.ConstantBuffer x) = f x
same_layer (t.ParameterBlock f) (t.ParameterBlock x) = f x
same_layer a b = false

abbrev pub same_arg_layer : Arg-F (Arg → Bool) (TypeTerm → Bool) → Arg-F Arg TypeTerm → Bool
same_arg_layer (t.Term f) (t.Term x) = f x
same_arg_layer (t.Fixed m) (t.Fixed n) = same_value m n
same_arg_layer a b = false

abbrev pub same_term : TypeTerm-F (Arg → Bool) (TypeTerm → Bool) → TypeTerm → Bool
same_term f x = same_layer f (out-TypeTerm x)

abbrev pub same_arg_step : Arg-F (Arg → Bool) (TypeTerm → Bool) → Arg → Bool
same_arg_step f x = same_arg_layer f (out-Arg x)

abbrev pub same : TypeTerm → TypeTerm → Bool
same = fold-TypeTerm (Arg → Bool) (TypeTerm → Bool) same_arg_step same_term

abbrev pub same_arg : Arg → Arg → Bool
same_arg = fold-Arg (Arg → Bool) (TypeTerm → Bool) same_arg_step same_term
