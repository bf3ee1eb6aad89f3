-- Structs that their fields' types lead back to.
use Rattle.std.specs.Prelude.{ℕ, ◌+◌, cond, List, [], ◌∷◌, ◌++◌, Option, Some, None}
use Rattle.slang_names.specs.declared.names.Ref.{Ref}
use Rattle.slang_names.specs.declared.codes.ModuleCode.TheVariants as k
use Rattle.slang_core.specs.declared.types.TypeTerm.{TypeTerm, fold-TypeTerm}
use Rattle.slang_core.specs.declared.types.Arg.TheOpen.{TypeTerm-F, Arg-F}
use Rattle.slang_core.specs.declared.types.Arg.TheOpen as t
use Rattle.plans.specs.Plans.{Verdict, Good, Wrong}
use Rattle.declared_names.specs.declared.declared.Declared.{Declared}
use Rattle.declared_names.specs.declared.declared.FieldAt.{FieldAt}
use Rattle.declared_names.specs.declared.declared.StructNames.{StructNames}
use Rattle.module_scope.specs.declared.heads.Outline.{Outline}
use Rattle.module_scope.specs.Known.{field_type, number_of_struct}
use Rattle.declared_names.specs.Declarations.{Declaration, Node, a_struct}
use Rattle.type_rules.specs.Leading.{edges_from, leads}

abbrev pub all_of : List (List Ref) → List Ref
all_of [] = []
all_of (x ∷ xs) = x ++ all_of xs

abbrev pub term_refs : TypeTerm-F (List Ref) (List Ref) → List Ref
term_refs (t.Struct r args) = r ∷ all_of args
term_refs (t.Array x n) = x
term_refs (t.Projection x r n) = x
term_refs (t.StructuredBuffer x) = x
term_refs (t.RwStructuredBuffer x) = x
term_refs (t.ConstantBuffer x) = x
term_refs (t.ParameterBlock x) = x
term_refs other = []

abbrev pub arg_refs : Arg-F (List Ref) (List Ref) → List Ref
arg_refs (t.Term x) = x
arg_refs (t.Fixed n) = []

-- the structs that a type mentions
abbrev pub mentions : TypeTerm → List Ref
mentions = fold-TypeTerm (List Ref) (List Ref) arg_refs term_refs

abbrev pub found_number : Option ℕ → List ℕ
found_number (Some n) = n ∷ []
found_number None = []

abbrev pub numbers_of : Declared → List Ref → List ℕ
numbers_of d [] = []
numbers_of d (r ∷ rs) = found_number (number_of_struct d (Some r)) ++ numbers_of d rs

abbrev pub type_holds : Declared → Option TypeTerm → List ℕ
type_holds d (Some x) = numbers_of d (mentions x)
type_holds d None = []

abbrev pub fields_hold : Outline → List FieldAt → List ℕ
fields_hold o [] = []
fields_hold o (f ∷ fs) = type_holds o.declared (field_type o f) ++ fields_hold o fs

-- from each struct, by its number, to those that the types of its fields mention
abbrev pub structs_hold : Outline → ℕ → List StructNames → List (ℕ × ℕ)
structs_hold o n [] = []
structs_hold o n (s ∷ ss) = edges_from n (fields_hold o s.fields) ++ structs_hold o (n + 1) ss

abbrev pub containments : Outline → List (ℕ × ℕ)
containments o = structs_hold o 0 o.declared.structs

abbrev pub self_line : List (ℕ × ℕ) → Node → Verdict (Unit {0}) → Verdict (Unit {0})
self_line es (a_struct s name place plain) next = cond (leads es s s) (Wrong name.place k.SelfContaining) next
self_line es other next = next

-- 156: the first struct that leads back to itself
abbrev pub containment_line : List (ℕ × ℕ) → List Declaration → Verdict (Unit {0})
containment_line es [] = Good tt
containment_line es (d ∷ ds) = self_line es d.node (containment_line es ds)
