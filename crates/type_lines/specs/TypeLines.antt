-- The lines of types.
use Rattle.std.specs.Prelude.{ℕ, Bool, true, false, ◌&&◌, ◌||◌, not, cond, nat_le, nat_lt, List, [], ◌∷◌, Option, Some, None, Result, Ok, Err}
use Rattle.std.specs.Option.{option_map}
use Rattle.slang_names.specs.declared.places.Place.{Place}
use Rattle.slang_names.specs.declared.places.Value.TheVariants as v
use Rattle.slang_names.specs.declared.codes.ModuleCode.{ModuleCode}
use Rattle.slang_names.specs.declared.codes.ModuleCode.TheVariants as k
use Rattle.slang_tree.specs.declared.types.Identifier.{Identifier}
use Rattle.slang_tree.specs.declared.types.Builtin.{Builtin}
use Rattle.slang_tree.specs.declared.types.Resource.{Resource}
use Rattle.slang_tree.specs.declared.types.Resource.TheVariants as r
use Rattle.slang_tree.specs.declared.types.Term.{Term}
use Rattle.slang_tree.specs.declared.types.Term.TheVariants as n
use Rattle.slang_tree.specs.declared.types.GenericArgument.{GenericArgument}
use Rattle.slang_core.specs.declared.types.TypeTerm.{TypeTerm}
use Rattle.slang_core.specs.declared.types.TypeTerm.TheVariants as ty
use Rattle.type_terms.specs.declared.typings.Fixed.{Fixed}
use Rattle.type_terms.specs.Types.{is_void, is_whole, nodes}
use Rattle.plans.specs.Plans.{Verdict, Good, Held, Wrong}
use Rattle.plans.specs.Lines.{demand, found, known}
use Rattle.declared_names.specs.declared.declared.OwnKind.{OwnKind}
use Rattle.declared_names.specs.declared.declared.OwnKind.TheVariants as own
use Rattle.declared_names.specs.declared.declared.MemberKind.{MemberKind}
use Rattle.declared_names.specs.declared.declared.MemberKind.TheVariants as m
use Rattle.module_scope.specs.declared.heads.Outline.{Outline}
use Rattle.module_scope.specs.declared.frames.InForce.{InForce}
use Rattle.module_scope.specs.declared.frames.Within.{Within}
use Rattle.module_scope.specs.Sees.{Found, a_local, a_member, an_own, look_up, member_named}
use Rattle.module_scope.specs.Known.{alias_at, constant_at, struct_type, struct_number}
use Rattle.type_lines.specs.declared.answers.Standing.{Standing}
use Rattle.type_lines.specs.Asked.{builtin_type, bars_void, is_global, is_field, is_empty}

-- a name that is not found is refused at the name
abbrev pub by_name : {A B : Type 0} → Place → Result A ModuleCode → (A → Verdict B) → Verdict B
by_name p (Ok x) next = next x
by_name p (Err code) next = Wrong p code

abbrev pub builtin_line : Place → Standing → Builtin → Verdict TypeTerm
builtin_line p s w = demand (not (is_void (builtin_type w) && bars_void s)) p k.Mismatch (Good (builtin_type w))

abbrev pub subject_type : Outline → Option ℕ → Option TypeTerm
subject_type o (Some s) = struct_type o.declared s
subject_type o None = None

abbrev pub this_type_line : Outline → Within → Place → Verdict TypeTerm
this_type_line o w p = found (subject_type o w.subject) p k.Unknown (λ t. Good t)

-- the type that an alias or a struct is
abbrev pub alias_line : Outline → ℕ → Verdict TypeTerm
alias_line o n = known (alias_at o n) (λ t. Good t)

abbrev pub struct_line : Outline → ℕ → Verdict TypeTerm
struct_line o s = known (struct_type o.declared s) (λ t. Good t)

abbrev pub member_as_type : Outline → Place → ModuleCode → MemberKind → Verdict TypeTerm
member_as_type o p code (m.Alias n) = alias_line o n
member_as_type o p code (m.Struct s) = struct_line o s
member_as_type o p code (m.Field n at) = Wrong p code
member_as_type o p code (m.Method n) = Wrong p code

abbrev pub own_as_type : Outline → Place → OwnKind → Verdict TypeTerm
own_as_type o p (own.Alias n) = alias_line o n
own_as_type o p (own.Struct s) = struct_line o s
own_as_type o p other = Wrong p k.Mismatch

abbrev pub named_type : Outline → Place → Found → Verdict TypeTerm
named_type o p (a_local x) = Wrong p k.Mismatch
named_type o p (a_member x) = member_as_type o p k.Mismatch x
named_type o p (an_own x) = own_as_type o p x

-- `plain`: without arguments
abbrev pub type_name_line : Outline → Within → List InForce → Place → Identifier → Bool → Verdict TypeTerm
type_name_line o w blocks p n plain = demand plain p k.NotYet
    (by_name n.place (look_up o.declared w.subject blocks n.name n.place.start) (named_type o p))

-- the member of a struct behind a dot; what is no type is told at its name
abbrev pub nested_line : Outline → Identifier → TypeTerm → Verdict TypeTerm
nested_line o n x = found (struct_number o.declared x) n.place k.NoMember (λ s.
    by_name n.place (member_named o.declared s n.name n.place.start) (member_as_type o n.place k.NoMember))

abbrev pub resource_type : Resource → TypeTerm → Option TypeTerm
resource_type r.StructuredBuffer x = Some (ty.StructuredBuffer x)
resource_type r.RwStructuredBuffer x = Some (ty.RwStructuredBuffer x)
resource_type other x = None

abbrev pub resource_line : Place → Standing → Resource → TypeTerm → Verdict TypeTerm
resource_line p s r x = demand (is_global s || is_field s) p k.ResourcePlace (demand (is_global s) p k.NotYet
    (found (resource_type r x) p k.NotYet (λ t. demand (is_whole x) p k.NotYet (Good t))))

-- the number between brackets: nothing where it is passed over, and then none where it is no constant
abbrev pub length_found : Outline → Result Found ModuleCode → Option (Option ℕ)
length_found o (Ok (an_own (own.Constant n))) = option_map (λ c. Some c.bits) (constant_at o n)
length_found o other = Some None

abbrev pub length_of : Outline → Within → List InForce → Term → Option (Option ℕ)
length_of o w blocks (n.Number p x) = Some (Some x.value)
length_of o w blocks (n.Name x) = length_found o (look_up o.declared w.subject blocks x.name x.place.start)

-- an array has one node more than its elements, and 4,096 at most
abbrev pub array_line : Place → Option (Option ℕ) → TypeTerm → Verdict TypeTerm
array_line p length x = known length (λ l. found l p k.NotConstant (λ n.
    demand (nat_le 1 n && nat_le n 65536) p k.ArrayLength
    (demand (not (is_void x)) p k.Mismatch
    (demand (nat_lt (nodes x) 4096) p k.TermSize
    (Good (ty.Array x (v.Number n)))))))
