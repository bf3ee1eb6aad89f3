-- The lines of names and members in expressions.
use Rattle.std.specs.Prelude.{ℕ, ◌+◌, Bool, true, false, ◌&&◌, ◌||◌, not, cond, nat_eq, nat_le, nat_lt, List, [], ◌∷◌, length, map, Option, Some, None}
use Rattle.slang_names.specs.declared.places.Place.{Place}
use Rattle.slang_names.specs.declared.names.Ref.{Ref}
use Rattle.slang_names.specs.declared.codes.ModuleCode.TheVariants as k
use Rattle.slang_names.specs.declared.numbers.Number.{Number}
use Rattle.slang_tree.specs.declared.types.Identifier.{Identifier}
use Rattle.slang_tree.specs.declared.types.GenericArgument.{GenericArgument}
use Rattle.slang_core.specs.declared.types.TypeTerm.{TypeTerm, out-TypeTerm}
use Rattle.slang_core.specs.declared.types.Arg.{Arg}
use Rattle.slang_core.specs.declared.types.Arg.TheOpen.{TypeTerm-F}
use Rattle.slang_core.specs.declared.types.Arg.TheOpen as l
use Rattle.slang_core.specs.declared.types.TypeTerm.TheVariants as ty
use Rattle.slang_core.specs.declared.types.Scalar.{Scalar}
use Rattle.slang_core.specs.declared.bodies.Expr.TheVariants as ex
use Rattle.slang_core.specs.declared.bodies.PlaceTerm.TheVariants as pl
use Rattle.type_terms.specs.declared.typings.Barred.{Barred}
use Rattle.type_terms.specs.declared.typings.Barred.TheVariants as b
use Rattle.type_terms.specs.declared.typings.Form.{Form}
use Rattle.type_terms.specs.declared.typings.Form.TheVariants as f
use Rattle.type_terms.specs.declared.typings.Typing.{Typing}
use Rattle.type_terms.specs.Types.{is_resource, is_read_only, is_uint, number_type, is_whole, elements}
use Rattle.type_terms.specs.Forms.{value, place, typed, read_of, field_form, component_form, element_form, number_expr, truth_expr, fixed_typing}
use Rattle.plans.specs.Plans.{Verdict, Good, Held, Wrong}
use Rattle.plans.specs.Lines.{demand, found, known}
use Rattle.declared_names.specs.declared.declared.Declared.{Declared}
use Rattle.declared_names.specs.declared.declared.OwnKind.{OwnKind}
use Rattle.declared_names.specs.declared.declared.OwnKind.TheVariants as own
use Rattle.declared_names.specs.declared.declared.MemberKind.{MemberKind}
use Rattle.declared_names.specs.declared.declared.MemberKind.TheVariants as m
use Rattle.module_scope.specs.declared.heads.Outline.{Outline}
use Rattle.module_scope.specs.declared.heads.Signature.{Signature}
use Rattle.module_scope.specs.declared.frames.InForce.{InForce}
use Rattle.module_scope.specs.declared.frames.Local.{Local}
use Rattle.module_scope.specs.declared.frames.Within.{Within}
use Rattle.module_scope.specs.Sees.{Found, a_local, a_member, an_own, look_up, member_named}
use Rattle.module_scope.specs.Known.{alias_at, constant_at, function_at, global_at, field_type, struct_type, struct_number}
use Rattle.type_lines.specs.declared.answers.Denoted.{Denoted}
use Rattle.type_lines.specs.declared.answers.Denoted.TheVariants as d
use Rattle.type_lines.specs.declared.answers.Callee.{Callee}
use Rattle.type_lines.specs.declared.answers.Reach.{Reach}
use Rattle.type_lines.specs.declared.answers.Reach.TheVariants as reach
use Rattle.type_lines.specs.declared.answers.Use.{Use}
use Rattle.type_lines.specs.declared.answers.Use.TheVariants as u
use Rattle.type_lines.specs.Asked.{is_value, is_called, is_uint_number, is_empty}
use Rattle.type_lines.specs.TypeLines.{by_name, subject_type}

-- ---- literals

abbrev pub number_typing : Number → Typing
number_typing n = record { of = number_type (is_uint_number n.kind); form = f.Value (number_expr (is_uint_number n.kind) n.value); literal = Some n.value }

abbrev pub truth_typing : Bool → Typing
truth_typing b = value ty.Bool (truth_expr b)

-- ---- `this` and `This`

abbrev pub this_bar : Within → Barred
this_bar w = cond w.is_mutating b.Nothing b.ImmutableThis

abbrev pub this_typing : Within → TypeTerm → Typing
this_typing w t = place t pl.This (this_bar w)

abbrev pub this_line : Outline → Within → Place → Verdict Denoted
this_line o w p = demand w.has_this p k.Unknown (found (subject_type o w.subject) p k.Unknown (λ t. Good (d.Value (this_typing w t))))

-- a type in an expression: before a dot, or called, which is refused by the call
abbrev pub kind_line : Place → Use → TypeTerm → Verdict Denoted
kind_line p u.Qualifier t = Good (d.Kind (Some t))
kind_line p u.Called t = Good (d.Kind None)
kind_line p role t = Wrong p k.Mismatch

abbrev pub this_kind_line : Outline → Within → Place → Use → Verdict Denoted
this_kind_line o w p role = found (subject_type o w.subject) p k.Unknown (kind_line p role)

-- ---- names

abbrev pub const_bar : Bool → Barred
const_bar true = b.NotAssignable
const_bar false = b.Nothing

abbrev pub local_typing : Local → Typing
local_typing x = place x.of (pl.Local x.number) (const_bar x.is_const)

abbrev pub global_bar : TypeTerm → Barred
global_bar t = const_bar (is_read_only t)

abbrev pub global_ref : Declared → List ℕ → Ref
global_ref d name = record { «module» = d.«module»; path = name }

abbrev pub global_typing : Outline → List ℕ → TypeTerm → Typing
global_typing o name t = place t (pl.Global (global_ref o.declared name)) (global_bar t)

abbrev pub callee : ℕ → Reach → Denoted
callee n how = d.Function (record { function = n; reach = how })

abbrev pub by_this : Within → Option TypeTerm → Reach
by_this w (Some t) = cond w.has_this (reach.ByValue (this_typing w t)) reach.Alone
by_this w None = reach.Alone

-- a method by its name alone: a static one is called by the type around, any other by `this`
abbrev pub reach_alone : Outline → Within → Signature → Reach
reach_alone o w h = cond h.flags.is_static reach.ByType (by_this w (subject_type o w.subject))

-- a function wants to be called, whatever its head
abbrev pub function_line : Outline → Place → Use → ℕ → (Signature → Reach) → Verdict Denoted
function_line o p role n how = demand (is_called role) p k.Mismatch (known (function_at o n) (λ h. Good (callee n (how h))))

-- an alias where a value is wanted, or called, is refused whatever it stands for
abbrev pub alias_kind : Outline → Place → Use → ℕ → Verdict Denoted
alias_kind o p u.Qualifier n = known (alias_at o n) (λ t. Good (d.Kind (Some t)))
alias_kind o p u.Called n = Good (d.Kind None)
alias_kind o p role n = Wrong p k.Mismatch

abbrev pub struct_kind : Outline → Place → Use → ℕ → Verdict Denoted
struct_kind o p role s = known (struct_type o.declared s) (kind_line p role)

abbrev pub named_member : Outline → Within → Place → Use → MemberKind → Verdict Denoted
named_member o w p role (m.Field n at) = demand w.has_this p k.Mismatch (known (field_type o at) (λ t. Good (d.Value (place t (pl.FieldOf n pl.This) (this_bar w)))))
named_member o w p role (m.Method n) = function_line o p role n (reach_alone o w)
named_member o w p role (m.Alias n) = alias_kind o p role n
named_member o w p role (m.Struct s) = struct_kind o p role s

abbrev pub named_own : Outline → Place → Use → List ℕ → OwnKind → Verdict Denoted
named_own o p role name (own.Function n) = function_line o p role n (λ h. reach.Free)
named_own o p role name (own.Alias n) = alias_kind o p role n
named_own o p role name (own.Struct s) = struct_kind o p role s
named_own o p role name (own.Constant n) = known (constant_at o n) (λ c. Good (d.Value (fixed_typing c)))
named_own o p role name (own.Global n) = known (global_at o n) (λ t. demand (not (is_value role) || not (is_resource t)) p k.ResourcePlace (Good (d.Value (global_typing o name t))))

abbrev pub named : Outline → Within → Place → Use → List ℕ → Found → Verdict Denoted
named o w p role name (a_local x) = Good (d.Value (local_typing x))
named o w p role name (a_member x) = named_member o w p role x
named o w p role name (an_own x) = named_own o p role name x

-- `plain`: without arguments between `<` and `>`
abbrev pub name_line : Outline → Within → List InForce → Place → Identifier → Bool → Use → Verdict Denoted
name_line o w blocks p n plain role = demand plain p k.NotYet
    (by_name n.place (look_up o.declared w.subject blocks n.name n.place.start) (named o w p role n.name))

-- ---- members

-- the number of a component by its letter: x, y, z, w
abbrev pub letter : ℕ → Option ℕ
letter c = cond (nat_eq c 120) (Some 0) (cond (nat_eq c 121) (Some 1) (cond (nat_eq c 122) (Some 2) (cond (nat_eq c 119) (Some 3) None)))

abbrev pub with_letter : ℕ → Option ℕ → Option (List ℕ) → Option (List ℕ)
with_letter size (Some n) (Some ns) = cond (nat_lt n size) (Some (n ∷ ns)) None
with_letter size n ns = None

abbrev pub letters : ℕ → List ℕ → Option (List ℕ)
letters size [] = Some []
letters size (c ∷ cs) = with_letter size (letter c) (letters size cs)

-- one component is a place of a place; several are a value
abbrev pub swizzled : Scalar → Form → List ℕ → Typing
swizzled s form (n ∷ []) = typed (number_type (is_uint s)) (component_form n form)
swizzled s form ns = value (ty.Vector s (length ns)) (ex.Swizzle ns (read_of form))

abbrev pub one_to_four : List ℕ → Bool
one_to_four ns = nat_le 1 (length ns) && nat_le (length ns) 4

abbrev pub swizzle_line : Identifier → Scalar → ℕ → Form → Verdict Denoted
swizzle_line n s size form = found (letters size n.name) n.place k.NoMember (λ ns. demand (one_to_four ns) n.place k.NoMember (Good (d.Value (swizzled s form ns))))

abbrev pub member_of_value : Outline → Place → Use → Typing → MemberKind → Verdict Denoted
member_of_value o p role a (m.Field n at) = known (field_type o at) (λ t. Good (d.Value (typed t (field_form n a.form))))
member_of_value o p role a (m.Method n) = function_line o p role n (λ h. reach.ByValue a)
member_of_value o p role a (m.Alias n) = Wrong p k.Mismatch
member_of_value o p role a (m.Struct s) = Wrong p k.Mismatch

abbrev pub member_of_type : Outline → Place → Use → MemberKind → Verdict Denoted
member_of_type o p role (m.Field n at) = Wrong p k.Mismatch
member_of_type o p role (m.Method n) = function_line o p role n (λ h. reach.ByType)
member_of_type o p role (m.Alias n) = alias_kind o p role n
member_of_type o p role (m.Struct s) = struct_kind o p role s

-- a member of the struct that a type is
abbrev pub struct_member : Outline → Identifier → TypeTerm → (MemberKind → Verdict Denoted) → Verdict Denoted
struct_member o n t next = found (struct_number o.declared t) n.place k.NoMember (λ s. by_name n.place (member_named o.declared s n.name n.place.start) next)

abbrev pub value_member : Outline → Place → Identifier → Use → Typing → TypeTerm-F Arg TypeTerm → Verdict Denoted
value_member o p n role a (l.Vector s size) = swizzle_line n s size a.form
value_member o p n role a other = struct_member o n a.of (member_of_value o p role a)

abbrev pub member_of : Outline → Place → Identifier → Use → Denoted → Verdict Denoted
member_of o p n role (d.Value a) = value_member o p n role a (out-TypeTerm a.of)
member_of o p n role (d.Kind (Some t)) = struct_member o n t (member_of_type o p role)
member_of o p n role (d.Kind None) = Wrong n.place k.NoMember
member_of o p n role (d.Function f) = Wrong p k.Mismatch

abbrev pub member_line : Outline → Place → Identifier → Bool → Use → Denoted → Verdict Denoted
member_line o p n plain role x = demand plain p k.NotYet (member_of o p n role x)

-- ---- elements

-- a number token past a known length is refused
abbrev pub literal_fits : Option ℕ → Option ℕ → Bool
literal_fits (Some i) (Some n) = nat_lt i n
literal_fits i n = true

abbrev pub index_line : Place → Typing → Typing → Verdict Denoted
index_line p a i = found (elements a.of) p k.Mismatch (λ e. demand (is_whole i.of) p k.Mismatch
    (demand (literal_fits i.literal e.1) p k.ArrayLength (Good (d.Value (typed e.0 (element_form a.form (read_of i.form)))))))
