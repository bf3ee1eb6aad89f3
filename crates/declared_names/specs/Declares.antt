-- The names that declarations declare.
use Rattle.std.specs.Prelude.{ℕ, ◌+◌, List, [], ◌∷◌, ◌++◌, length, slice_get, slice_set, Option, Some, None, fold}
use Rattle.slang_names.specs.declared.places.Place.{Place}
use Rattle.slang_names.specs.declared.places.Access.{Access}
use Rattle.slang_tree.specs.declared.statements.DeclaredName.{DeclaredName}
use Rattle.declared_names.specs.declared.declared.Declared.{Declared}
use Rattle.declared_names.specs.declared.declared.OwnKind.{OwnKind}
use Rattle.declared_names.specs.declared.declared.OwnKind.TheVariants as o
use Rattle.declared_names.specs.declared.declared.StructNames.{StructNames}
use Rattle.declared_names.specs.declared.declared.MemberKind.{MemberKind}
use Rattle.declared_names.specs.declared.declared.MemberKind.TheVariants as m
use Rattle.declared_names.specs.declared.declared.FieldAt.{FieldAt}
use Rattle.declared_names.specs.Declarations.{Declaration, Node, a_struct, an_alias, a_function, some_fields, a_constant, a_global, an_unbuilt}

-- ---- one more name of the module, of a struct

abbrev pub with_own : List ℕ → ℕ → OwnKind → Declared → Declared
with_own name seen kind d = record {
  «module» = d.module;
  names = d.names ++ name ∷ [];
  owns = d.owns ++ record { seen = seen; kind = kind } ∷ [];
  paths = d.paths;
  structs = d.structs;
}

abbrev pub one_member : List ℕ → Access → ℕ → MemberKind → StructNames → StructNames
one_member name access seen kind s = record {
  around = s.around;
  names = s.names ++ name ∷ [];
  members = s.members ++ record { access = access; seen = seen; kind = kind } ∷ [];
  fields = s.fields;
}

-- one more field, which has the next number
abbrev pub one_field : List ℕ → Access → FieldAt → StructNames → StructNames
one_field name access at s = record {
  around = s.around;
  names = s.names ++ name ∷ [];
  members = s.members ++ record { access = access; seen = 0; kind = m.Field (length s.fields) at } ∷ [];
  fields = s.fields ++ at ∷ [];
}

abbrev pub set_struct : Declared → ℕ → StructNames → Declared
set_struct d n s = record { «module» = d.module; names = d.names; owns = d.owns; paths = d.paths; structs = slice_set d.structs n s }

abbrev pub change_struct : Declared → ℕ → (StructNames → StructNames) → Option StructNames → Declared
change_struct d n f (Some s) = set_struct d n (f s)
change_struct d n f None = d

abbrev pub in_struct : ℕ → (StructNames → StructNames) → Declared → Declared
in_struct n f d = change_struct d n f (slice_get d.structs n)

abbrev pub no_members : Place → StructNames
no_members place = record { around = place; names = []; members = []; fields = [] }

abbrev pub one_struct : List ℕ → Place → Declared → Declared
one_struct path place d = record {
  «module» = d.module;
  names = d.names;
  owns = d.owns;
  paths = d.paths ++ path ∷ [];
  structs = d.structs ++ no_members place ∷ [];
}

-- ---- what a declaration declares

abbrev pub with_name : Option ℕ → Access → List ℕ → ℕ → OwnKind → MemberKind → Declared → Declared
with_name None access name seen own member d = with_own name seen own d
with_name (Some s) access name seen own member d = in_struct s (one_member name access seen member) d

abbrev pub fields_from : ℕ → Access → ℕ → ℕ → List DeclaredName → Declared → Declared
fields_from s access n at [] d = d
fields_from s access n at (x ∷ xs) d = fields_from s access n (at + 1) xs (in_struct s (one_field x.name.name access (record { declaration = n; at = at })) d)

abbrev pub with_fields : Option ℕ → Access → ℕ → List DeclaredName → Declared → Declared
with_fields (Some s) access n xs d = fields_from s access n 0 xs d
with_fields None access n xs d = d

abbrev pub declare_node : Declaration → Node → Declared → Declared
declare_node x (a_struct s name place plain) d = one_struct (x.prefix ++ name.name) place (with_name x.owner x.access name.name 0 (o.Struct s) (m.Struct s) d)
declare_node x (an_alias y) d = with_name x.owner x.access y.name.name y.place.end (o.Alias x.number) (m.Alias x.number) d
declare_node x (a_function attrs y) d = with_name x.owner x.access y.name.name 0 (o.Function x.number) (m.Method x.number) d
declare_node x (some_fields y) d = with_fields x.owner x.access x.number y.names d
declare_node x (a_constant y) d = with_own y.name.name y.place.end (o.Constant x.number) d
declare_node x (a_global attrs y) d = with_own y.name.name 0 (o.Global x.number) d
declare_node x (an_unbuilt p) d = d

abbrev pub declare : Declared → Declaration → Declared
declare d x = declare_node x x.node d

abbrev pub nothing_declared : List ℕ → Declared
nothing_declared name = record { «module» = name; names = []; owns = []; paths = []; structs = [] }

-- the names of a module of that name with these declarations
abbrev pub declared_of : List ℕ → List Declaration → Declared
declared_of name xs = fold declare (nothing_declared name) xs
