-- The lines of declarations, without the bodies of functions.
use Rattle.std.specs.Prelude.{ℕ, ◌+◌, ◌*◌, Bool, true, false, ◌&&◌, ◌||◌, not, cond, nat_eq, nat_le, bytes_eq, codes, List, [], ◌∷◌, ◌++◌, length, map, Option, Some, None}
use Rattle.std.specs.List.{list_all}
use Rattle.slang_names.specs.declared.places.Place.{Place}
use Rattle.slang_names.specs.declared.places.Mode.{Mode}
use Rattle.slang_names.specs.declared.places.Mode.TheVariants as mode
use Rattle.slang_names.specs.declared.codes.ModuleCode.TheVariants as k
use Rattle.slang_tree.specs.declared.types.Identifier.{Identifier}
use Rattle.slang_tree.specs.declared.statements.Attribute.{Attribute}
use Rattle.slang_tree.specs.declared.statements.Literal.{Literal}
use Rattle.slang_tree.specs.declared.statements.Literal.TheVariants as lit
use Rattle.slang_tree.specs.declared.declarations.Function.{Function}
use Rattle.slang_tree.specs.declared.declarations.Parameter.{Parameter}
use Rattle.slang_core.specs.declared.types.TypeTerm.{TypeTerm}
use Rattle.slang_core.specs.declared.types.TypeTerm.TheVariants as ty
use Rattle.slang_core.specs.declared.types.Scalar.{Scalar}
use Rattle.slang_core.specs.declared.types.Scalar.TheVariants as s
use Rattle.slang_core.specs.declared.declarations.Flags.{Flags}
use Rattle.slang_core.specs.declared.declarations.Par.{Par}
use Rattle.slang_core.specs.declared.declarations.Entry.{Entry}
use Rattle.slang_core.specs.declared.declarations.BuiltIn.{BuiltIn}
use Rattle.slang_core.specs.declared.declarations.BuiltIn.TheVariants as i
use Rattle.type_terms.specs.declared.typings.Numeric.{Numeric}
use Rattle.type_terms.specs.declared.typings.Typing.{Typing}
use Rattle.type_terms.specs.declared.typings.Fixed.{Fixed}
use Rattle.type_terms.specs.declared.typings.Worth.{Worth}
use Rattle.type_terms.specs.declared.typings.Worth.TheVariants.{Words, Truth, Undefined, Unknown}
use Rattle.type_terms.specs.Types.{is_void, is_whole, is_resource, same, numeric_of, scalar_of}
use Rattle.type_terms.specs.Values.{value_of}
use Rattle.plans.specs.Plans.{Verdict, Good, Held, Wrong}
use Rattle.plans.specs.Lines.{demand, found, known, and_then}
use Rattle.declared_names.specs.declared.declared.Declared.{Declared}
use Rattle.module_scope.specs.declared.heads.Head.{Head}
use Rattle.module_scope.specs.declared.heads.Head.TheVariants as h
use Rattle.module_scope.specs.declared.heads.Signature.{Signature}
use Rattle.declared_names.specs.Declarations.{is_plain}
use Rattle.module_scope.specs.Known.{struct_ref}
use Rattle.type_lines.specs.Asked.{is_there, is_empty, attribute_named, has_attribute, has_entry_word, shader_word, numthreads_word, mutating_word}
use Rattle.type_lines.specs.ValueLines.{core_of}

-- ---- aliases, fields, globals

-- a typedef in a struct names no typedef of a struct by a dot; this is asked also where its type is passed over
abbrev pub alias_head : Place → Bool → Option TypeTerm → Verdict Head
alias_head p ok t = demand ok p k.BindingForm (known t (λ x. Good (h.Alias x)))

abbrev pub fields_head : Place → TypeTerm → List TypeTerm → Verdict Head
fields_head p base ts = demand (not (is_void base)) p k.Mismatch (Good (h.Fields ts))

abbrev pub global_head : Place → List Attribute → TypeTerm → Verdict Head
global_head p attrs t = demand (is_empty attrs) p k.NotYet (demand (is_resource t) p k.Mismatch (Good (h.Global t)))

-- ---- constants

abbrev pub scalar_in : Option Numeric → Scalar
scalar_in (Some n) = scalar_of n.is_unsigned
scalar_in None = s.Int

abbrev pub fixed : TypeTerm → ℕ → Fixed
fixed t bits = record { scalar = scalar_in (numeric_of t); bits = bits }

abbrev pub one_word : Worth → Option ℕ
one_word (Words u (n ∷ [])) = Some n
one_word other = None

abbrev pub constant_head : Place → TypeTerm → Typing → Verdict Head
constant_head p t a = demand (is_whole t && is_whole a.of) p k.Mismatch (found (one_word (value_of (core_of a))) p k.NotConstant (λ n. Good (h.Constant (fixed t n))))

-- ---- functions

abbrev pub flags_of : Function → List Attribute → Flags
flags_of x attrs = record { is_static = x.is_static; is_mutating = has_attribute mutating_word attrs }

abbrev pub uint3 : TypeTerm
uint3 = ty.Vector s.Uint 3

-- a letter without regard to its case
abbrev pub lower : ℕ → ℕ
lower c = cond (nat_le 65 c && nat_le c 90) (c + 32) c

abbrev pub says : List ℕ → List ℕ → Bool
says word name = bytes_eq (map lower word) (map lower name)

-- what a semantic stands for
abbrev pub input_named : List ℕ → Option BuiltIn
input_named name = cond (says (codes "SV_DispatchThreadID") name) (Some i.DispatchThreadId) (cond (says (codes "SV_GroupID") name) (Some i.GroupId)
    (cond (says (codes "SV_GroupThreadID") name) (Some i.GroupThreadId) (cond (says (codes "SV_GroupIndex") name) (Some i.GroupIndex) None)))

abbrev pub input_type : BuiltIn → TypeTerm
input_type i.GroupIndex = ty.Uint
input_type other = uint3

abbrev pub is_in : Mode → Bool
is_in mode.In = true
is_in other = false

abbrev pub typed_input : Par → Option BuiltIn → Option BuiltIn
typed_input x (Some b) = cond (is_in x.mode && same x.of (input_type b)) (Some b) None
typed_input x None = None

abbrev pub semantic_of : Option Identifier → Option BuiltIn
semantic_of (Some n) = input_named n.name
semantic_of None = None

abbrev pub with_input : Option BuiltIn → Option (List BuiltIn) → Option (List BuiltIn)
with_input (Some b) (Some bs) = Some (b ∷ bs)
with_input b bs = None

-- what each parameter of an entry is given
abbrev pub inputs : List Parameter → List Par → Option (List BuiltIn)
inputs (x ∷ xs) (y ∷ ys) = with_input (typed_input y (semantic_of x.semantic)) (inputs xs ys)
inputs xs ys = Some []

abbrev pub sizes_fit : ℕ → ℕ → ℕ → Bool
sizes_fit x y z = nat_le 1 x && (nat_le x 1024 && (nat_le 1 y && (nat_le y 1024 && (nat_le 1 z && (nat_le z 64 && nat_le (x * y * z) 1024)))))

abbrev pub entry_of_sizes : List Literal → Option (List BuiltIn) → Option Entry
entry_of_sizes (lit.Number p x ∷ lit.Number q y ∷ lit.Number r z ∷ []) (Some bs) =
    cond (sizes_fit x.value y.value z.value) (Some (record { x = x.value; y = y.value; z = z.value; inputs = bs })) None
entry_of_sizes xs bs = None

-- with both attributes, no result, and parameters and sizes that fit
abbrev pub entry_with : Option (List Literal) → Option (List Literal) → TypeTerm → Option (List BuiltIn) → Option Entry
entry_with (Some xs) (Some sizes) t bs = cond (is_void t) (entry_of_sizes sizes bs) None
entry_with xs sizes t bs = None

abbrev pub entry_of : Function → List Attribute → TypeTerm → List Par → Option Entry
entry_of x attrs t pars = entry_with (attribute_named shader_word attrs) (attribute_named numthreads_word attrs) t (inputs x.parameters pars)

abbrev pub owner_ref : Declared → List ℕ → Identifier → List ℕ
owner_ref d prefix n = prefix ++ n.name

abbrev pub signature : Declared → Option ℕ → List ℕ → List Attribute → Function → TypeTerm → List Par → Option Entry → Signature
signature d owner prefix attrs x t pars entry = record {
  target = record { «module» = d.«module»; path = prefix ++ x.name.name };
  owner = owner;
  flags = flags_of x attrs;
  is_entry = has_entry_word attrs;
  parameters = pars;
  result = t;
  entry = entry;
}

-- how a function is called. What it is as an entry is known of the others too where it is none that can be started
abbrev pub function_head : Declared → Option ℕ → List ℕ → List Attribute → Function → TypeTerm → List Par → Verdict Head
function_head d owner prefix attrs x t pars =
    demand (is_plain x.generics [] x.wheres) x.place k.NotYet (Good (h.Function (signature d owner prefix attrs x t pars (entry_of x attrs t pars))))

-- the line of an entry: with an attribute of entries a function can be started
abbrev pub can_start : Signature → Bool
can_start s = not s.is_entry || is_there s.entry

abbrev pub entry_line : Place → Head → Verdict Head
entry_line p (h.Function s) = demand (can_start s) p k.EntryShape (Good (h.Function s))
entry_line p other = Good other
