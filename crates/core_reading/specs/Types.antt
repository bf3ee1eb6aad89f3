-- Types of a core, where its parameters stand for these arguments; the fields of structs, and the zeros of types.
use Rattle.std.specs.Prelude.{ℕ, zero, suc, Bool, true, false, List, [], ◌∷◌, map, Option, Some, None, slice_get}
use Rattle.slang_names.specs.declared.names.Ref.{Ref}
use Rattle.slang_names.specs.declared.places.Value.{Value as Term}
use Rattle.slang_names.specs.declared.places.Value.TheVariants as value
use Rattle.slang_core.specs.declared.types.Scalar.{Scalar as Kind}
use Rattle.slang_core.specs.declared.types.Scalar.TheVariants as kind
use Rattle.slang_core.specs.declared.types.TypeTerm.{TypeTerm, fold-TypeTerm}
use Rattle.slang_core.specs.declared.types.Arg.{Arg, fold-Arg}
use Rattle.slang_core.specs.declared.types.Arg.TheOpen.{TypeTerm-F, Arg-F}
use Rattle.slang_core.specs.declared.types.Arg.TheOpen as term
use Rattle.behavior.specs.Values.{Value, Values, Truth, Word, Whole, NoMore, Then}
use Rattle.spirv_words.specs.Machine.{repeated, if_some}
use Rattle.core_reading.specs.Ground.{Ground, Void, Logical, Scalar, Vector, ArrayOf, StructOf, Structured, ConstantData, Block, NoType, Arguments, NoArgument, TypeArgument, NumberArgument, type_at, number_at}
use Rattle.core_reading.specs.Programs.{CoreProgram, struct_of}

abbrev pub is_int : Kind → Bool
is_int kind.Int = true
is_int kind.Uint = false

abbrev pub value_in : Arguments → Term → ℕ
value_in given (value.Number n) = n
value_in given (value.Parameter n) = number_at given n

-- an argument, put before others
abbrev pub argument_layer : Arguments → Arg-F (Arguments → Arguments) Ground → Arguments → Arguments
argument_layer given (term.Term t) = λ rest. TypeArgument t rest
argument_layer given (term.Fixed v) = λ rest. NumberArgument (value_in given v) rest

abbrev pub all_arguments : List (Arguments → Arguments) → Arguments
all_arguments [] = NoArgument
all_arguments (a ∷ others) = a (all_arguments others)

-- A projection of an associated type is read once the reading knows by what its type conforms; in a program without
-- parameters there is none.
abbrev pub type_layer : Arguments → TypeTerm-F (Arguments → Arguments) Ground → Ground
type_layer given term.Void = Void
type_layer given term.Bool = Logical
type_layer given term.Int = Scalar true
type_layer given term.Uint = Scalar false
type_layer given (term.Vector s n) = Vector (is_int s) n
type_layer given (term.Array t v) = ArrayOf (value_in given v) t
type_layer given (term.Struct r args) = StructOf r (all_arguments args)
type_layer given (term.Parameter n) = type_at given n
type_layer given (term.Projection t r name) = NoType
type_layer given (term.StructuredBuffer t) = Structured false t
type_layer given (term.RwStructuredBuffer t) = Structured true t
type_layer given (term.ConstantBuffer t) = ConstantData t
type_layer given (term.ParameterBlock t) = Block t

-- what a type is
abbrev pub ground_type : Arguments → TypeTerm → Ground
ground_type given = fold-TypeTerm (Arguments → Arguments) Ground (argument_layer given) (type_layer given)

-- what an argument is, put before others
abbrev pub ground_argument : Arguments → Arg → Arguments → Arguments
ground_argument given = fold-Arg (Arguments → Arguments) Ground (argument_layer given) (type_layer given)

abbrev pub ground_arguments : Arguments → List Arg → Arguments
ground_arguments given args = all_arguments (map (ground_argument given) args)

-- ---- structs

abbrev pub field_types : CoreProgram → Ref → Arguments → List Ground
field_types p r given = if_some (struct_of p r) [] (λ s. map (λ f. ground_type given f.of) s.fields)

abbrev pub fields_of : CoreProgram → Ground → List Ground
fields_of p (StructOf r given) = field_types p r given
fields_of p t = []

abbrev pub or_no_type : Option Ground → Ground
or_no_type None = NoType
or_no_type (Some t) = t

-- the type of the field of that number
abbrev pub field_type : CoreProgram → Ground → ℕ → Ground
field_type p t n = or_no_type (slice_get (fields_of p t) n)

-- ---- zeros

-- a bool is false, a number 0, and a whole has the zeros of its parts; given the parts of each struct
abbrev pub zero_with : (Ref → Arguments → Values) → Ground → Value
zero_with fields Logical = Truth false
zero_with fields (Scalar signed) = Word 0
zero_with fields (Vector signed n) = Whole (repeated n (Word 0))
zero_with fields (ArrayOf n of) = Whole (repeated n (zero_with fields of))
zero_with fields (StructOf r given) = Whole (fields r given)
zero_with fields t = Word 0

abbrev pub zeros_with : (Ground → Value) → List Ground → Values
zeros_with zero_of [] = NoMore
zeros_with zero_of (t ∷ ts) = Then (zero_of t) (zeros_with zero_of ts)

-- the parts of a struct's zero, where no more than so many structs stand in one another
abbrev pub struct_zeros : CoreProgram → ℕ → Ref → Arguments → Values
struct_zeros p zero r given = NoMore
struct_zeros p (suc depth) r given = zeros_with (zero_with (struct_zeros p depth)) (field_types p r given)

-- no more structs stand in one another in a program that is accepted: none contains itself, and no more types than these are made
-- of it. With type arguments a struct may stand in one of its own name, so the number of declarations would not do
unfoldable pub most_structs : ℕ
most_structs = 16384

abbrev pub zero_of : CoreProgram → Ground → Value
zero_of p t = zero_with (struct_zeros p most_structs) t
