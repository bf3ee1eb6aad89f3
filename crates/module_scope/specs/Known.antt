-- What is known of the declarations of a module.
use Rattle.std.specs.Prelude.{ℕ, Bool, false, List, [], ◌∷◌, slice_get, Option, Some, None}
use Rattle.std.specs.Option.{option_map}
use Rattle.slang_names.specs.declared.names.Ref.{Ref}
use Rattle.slang_core.specs.declared.types.TypeTerm.{TypeTerm}
use Rattle.slang_core.specs.declared.types.TypeTerm.TheVariants as ty
use Rattle.type_terms.specs.declared.typings.Fixed.{Fixed}
use Rattle.name_lists.specs.Names.{last_place}
use Rattle.declared_names.specs.declared.declared.Declared.{Declared}
use Rattle.declared_names.specs.declared.declared.StructNames.{StructNames}
use Rattle.declared_names.specs.declared.declared.FieldAt.{FieldAt}
use Rattle.module_scope.specs.declared.heads.Outline.{Outline}
use Rattle.module_scope.specs.declared.heads.Head.{Head}
use Rattle.module_scope.specs.declared.heads.Head.TheVariants as h
use Rattle.module_scope.specs.declared.heads.Signature.{Signature}
use Rattle.module_scope.specs.declared.heads.Spelling.{Spelling}
use Rattle.type_terms.specs.Types.{struct_of}

abbrev pub flat : {A : Type 0} → Option (Option A) → Option A
flat (Some o) = o
flat None = None

-- the head of a declaration, where it has a typing
abbrev pub head_at : Outline → ℕ → Option Head
head_at o n = flat (slice_get o.heads n)

abbrev pub alias_in : Option Head → Option TypeTerm
alias_in (Some (h.Alias t)) = Some t
alias_in other = None

abbrev pub alias_at : Outline → ℕ → Option TypeTerm
alias_at o n = alias_in (head_at o n)

abbrev pub constant_in : Option Head → Option Fixed
constant_in (Some (h.Constant c)) = Some c
constant_in other = None

abbrev pub constant_at : Outline → ℕ → Option Fixed
constant_at o n = constant_in (head_at o n)

abbrev pub function_in : Option Head → Option Signature
function_in (Some (h.Function s)) = Some s
function_in other = None

abbrev pub function_at : Outline → ℕ → Option Signature
function_at o n = function_in (head_at o n)

abbrev pub global_in : Option Head → Option TypeTerm
global_in (Some (h.Global t)) = Some t
global_in other = None

abbrev pub global_at : Outline → ℕ → Option TypeTerm
global_at o n = global_in (head_at o n)

abbrev pub fields_in : Option Head → List TypeTerm
fields_in (Some (h.Fields ts)) = ts
fields_in other = []

-- the type of a field
abbrev pub field_type : Outline → FieldAt → Option TypeTerm
field_type o f = slice_get (fields_in (head_at o f.declaration)) f.at

abbrev pub nothing_spelled : Spelling
nothing_spelled = record { subject = None; is_projected = false }

abbrev pub or_nothing : Option Spelling → Spelling
or_nothing (Some s) = s
or_nothing None = nothing_spelled

abbrev pub spelling_at : Outline → ℕ → Spelling
spelling_at o n = or_nothing (slice_get o.spellings n)

-- a struct as a type
abbrev pub struct_ref : Declared → List ℕ → Ref
struct_ref d path = record { «module» = d.module; path = path }

abbrev pub struct_type : Declared → ℕ → Option TypeTerm
struct_type d s = option_map (λ path. ty.Struct (struct_ref d path) []) (slice_get d.paths s)

abbrev pub number_of_struct : Declared → Option Ref → Option ℕ
number_of_struct d (Some r) = last_place r.path d.paths 0
number_of_struct d None = None

-- the number of the struct that a type is
abbrev pub struct_number : Declared → TypeTerm → Option ℕ
struct_number d t = number_of_struct d (struct_of t)

abbrev pub fields_of : Option StructNames → List FieldAt
fields_of (Some s) = s.fields
fields_of None = []

abbrev pub fields_at : Declared → ℕ → List FieldAt
fields_at d s = fields_of (slice_get d.structs s)
