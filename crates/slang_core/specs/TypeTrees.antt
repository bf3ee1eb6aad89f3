-- What types spell, as trees.
use Rattle.std.specs.Prelude.{ℕ, List, [], ◌∷◌, Option, Some, None, map}
use Rattle.slang_names.specs.declared.names.Ref.{Ref}
use Rattle.slang_names.specs.declared.places.Value.{Value}
use Rattle.slang_names.specs.declared.places.Value.TheVariants.{Number, Parameter}
use Rattle.slang_core.specs.declared.types.Scalar.{Scalar}
use Rattle.slang_core.specs.declared.types.Scalar.TheVariants as scalar
use Rattle.slang_core.specs.declared.types.TypeTerm.{TypeTerm, fold-TypeTerm}
use Rattle.slang_core.specs.declared.types.Arg.{Arg, fold-Arg}
use Rattle.slang_core.specs.declared.types.Arg.TheOpen.{TypeTerm-F, Arg-F}
use Rattle.slang_core.specs.declared.types.Arg.TheOpen as term
use Rattle.form_grammar.specs.Trees.{Tree, nothing, byte, number, text, ◌▸◌, tagged, nested, many, chain, list_of}

-- nothing, or what is there
abbrev pub option_of : {A : Type 0} → (A → Tree) → Option A → Tree
option_of view None = tagged 0 nothing
option_of view (Some x) = tagged 1 (view x)

abbrev pub name_tree : List ℕ → Tree
name_tree n = text n

abbrev pub ref_tree : Ref → Tree
ref_tree r = text r.module ▸ text r.path

abbrev pub value_tree : Value → Tree
value_tree (Number n) = tagged 0 (number n)
value_tree (Parameter n) = tagged 1 (number n)

abbrev pub scalar_tree : Scalar → Tree
scalar_tree scalar.Int = byte 2
scalar_tree scalar.Uint = byte 3

abbrev pub term_layer : TypeTerm-F Tree Tree → Tree
term_layer term.Void = tagged 0 nothing
term_layer term.Bool = tagged 1 nothing
term_layer term.Int = tagged 2 nothing
term_layer term.Uint = tagged 3 nothing
term_layer (term.Vector s n) = tagged 4 (scalar_tree s ▸ byte n)
term_layer (term.Array t v) = tagged 5 (nested t ▸ value_tree v)
term_layer (term.Struct r args) = tagged 6 (ref_tree r ▸ many (chain args))
term_layer (term.Parameter n) = tagged 7 (number n)
term_layer (term.Projection t r name) = tagged 8 (nested t ▸ ref_tree r ▸ text name)
term_layer (term.StructuredBuffer t) = tagged 9 (nested t)
term_layer (term.RwStructuredBuffer t) = tagged 10 (nested t)
term_layer (term.ConstantBuffer t) = tagged 11 (nested t)
term_layer (term.ParameterBlock t) = tagged 12 (nested t)

abbrev pub arg_layer : Arg-F Tree Tree → Tree
arg_layer (term.Term t) = tagged 0 (nested t)
arg_layer (term.Fixed v) = tagged 1 (value_tree v)

-- what a type spells
abbrev pub type_tree : TypeTerm → Tree
type_tree = fold-TypeTerm Tree Tree arg_layer term_layer

-- what an argument spells
abbrev pub arg_tree : Arg → Tree
arg_tree = fold-Arg Tree Tree arg_layer term_layer
