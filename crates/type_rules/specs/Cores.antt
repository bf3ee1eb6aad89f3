-- The core of a module whose heads and bodies are known.
use Rattle.std.specs.Prelude.{ℕ, Bool, false, cond, nat_eq, List, [], ◌∷◌, ◌++◌, slice_get, Option, Some, None}
use Rattle.std.specs.Option.{option_map}
use Rattle.slang_names.specs.declared.places.Access.{Access}
use Rattle.slang_names.specs.declared.names.Ref.{Ref}
use Rattle.slang_tree.specs.declared.statements.DeclaredName.{DeclaredName}
use Rattle.slang_core.specs.declared.types.TypeTerm.{TypeTerm}
use Rattle.slang_core.specs.declared.bodies.Body.{Body}
use Rattle.slang_core.specs.declared.declarations.CoreModule.{CoreModule}
use Rattle.slang_core.specs.declared.declarations.Decl.{Decl}
use Rattle.slang_core.specs.declared.declarations.Decl.TheVariants as c
use Rattle.slang_core.specs.declared.declarations.Field.{Field}
use Rattle.slang_core.specs.declared.declarations.Bind.{Bind}
use Rattle.slang_core.specs.declared.declarations.Params.{Params}
use Rattle.module_scope.specs.declared.heads.Head.{Head}
use Rattle.module_scope.specs.declared.heads.Head.TheVariants as h
use Rattle.module_scope.specs.declared.heads.Outline.{Outline}
use Rattle.module_scope.specs.declared.heads.Signature.{Signature}
use Rattle.module_scope.specs.Known.{head_at, fields_in, alias_in, struct_ref}
use Rattle.declared_names.specs.Declarations.{Declaration, Node, a_struct, an_alias, a_function, some_fields, a_constant, a_global}

abbrev pub no_params : Params
no_params = record { list = []; constraints = [] }

abbrev pub is_owner : Option ℕ → ℕ → Bool
is_owner (Some m) n = nat_eq m n
is_owner None n = false

-- ---- the fields and the typedefs of a struct

abbrev pub fields_of : Access → List DeclaredName → List TypeTerm → List Field
fields_of access (n ∷ ns) (t ∷ ts) = record { name = n.name.name; access = access; of = t } ∷ fields_of access ns ts
fields_of access ns ts = []

abbrev pub node_fields : Outline → Declaration → Node → List Field
node_fields o d (some_fields x) = fields_of d.access x.names (fields_in (head_at o d.number))
node_fields o d other = []

abbrev pub struct_fields : Outline → ℕ → List Declaration → List Field
struct_fields o s [] = []
struct_fields o s (d ∷ ds) = cond (is_owner d.owner s) (node_fields o d d.node) [] ++ struct_fields o s ds

abbrev pub bind_of : Access → List ℕ → Option TypeTerm → List Bind
bind_of access name (Some t) = record { name = name; access = access; of = t } ∷ []
bind_of access name None = []

abbrev pub node_binds : Outline → Declaration → Node → List Bind
node_binds o d (an_alias x) = bind_of d.access x.name.name (alias_in (head_at o d.number))
node_binds o d other = []

abbrev pub struct_binds : Outline → ℕ → List Declaration → List Bind
struct_binds o s [] = []
struct_binds o s (d ∷ ds) = cond (is_owner d.owner s) (node_binds o d d.node) [] ++ struct_binds o s ds

-- ---- declarations. A typedef in a struct is the struct's, and so are fields

abbrev pub owner_ref : Outline → Option ℕ → Option Ref
owner_ref o (Some s) = option_map (struct_ref o.declared) (slice_get o.declared.paths s)
owner_ref o None = None

abbrev pub alias_decl : Option ℕ → Access → List ℕ → TypeTerm → List Decl
alias_decl None access path t = c.Alias (record { path = path; access = access; of = t }) ∷ []
alias_decl (Some s) access path t = []

abbrev pub function_decl : Outline → Access → Signature → Decl
function_decl o access x = c.Function (record {
  path = x.target.path;
  access = access;
  owner = owner_ref o x.owner;
  flags = x.flags;
  params = no_params;
  parameters = x.parameters;
  result = x.result;
  entry = x.entry;
})

abbrev pub struct_decl : Outline → List Declaration → Declaration → ℕ → List ℕ → Decl
struct_decl o ds d s name = c.Struct (record {
  path = d.prefix ++ name;
  access = d.access;
  params = no_params;
  fields = struct_fields o s ds;
  conformances = [];
  bindings = struct_binds o s ds;
})

abbrev pub head_decl : Outline → List Declaration → Declaration → Node → Option Head → List Decl
head_decl o ds d (a_struct s name place plain) head = struct_decl o ds d s name.name ∷ []
head_decl o ds d (an_alias x) (Some (h.Alias t)) = alias_decl d.owner d.access x.name.name t
head_decl o ds d (a_function attrs x) (Some (h.Function y)) = function_decl o d.access y ∷ []
head_decl o ds d (a_constant x) (Some (h.Constant y)) = c.Constant (record { path = x.name.name; access = d.access; scalar = y.scalar; bits = y.bits }) ∷ []
head_decl o ds d (a_global attrs x) (Some (h.Global t)) = c.Global (record { path = x.name.name; access = d.access; of = t; binding = None }) ∷ []
head_decl o ds d node head = []

abbrev pub decls_of : Outline → List Declaration → List Declaration → List Decl
decls_of o ds [] = []
decls_of o ds (d ∷ rest) = head_decl o ds d d.node (head_at o d.number) ++ decls_of o ds rest

abbrev pub core_of : List ℕ → Outline → List Declaration → List Body → CoreModule
core_of name o ds bodies = record { reached = []; own = record { name = name; imports = []; decls = decls_of o ds ds }; bodies = bodies }
