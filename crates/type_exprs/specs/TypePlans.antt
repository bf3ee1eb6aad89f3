-- Types: the parts of each node and its line.
use Rattle.std.specs.Prelude.{ℕ, Bool, true, false, List, [], reverse, Option, Some, None, Result, Ok}
use Rattle.slang_names.specs.declared.places.Place.{Place}
use Rattle.slang_tree.specs.declared.types.Identifier.{Identifier}
use Rattle.slang_tree.specs.declared.types.Term.{Term}
use Rattle.slang_tree.specs.declared.types.TypeTree.{TypeTree, fold-TypeTree}
use Rattle.slang_tree.specs.declared.types.TypeNode.{TypeNode, fold-TypeNode}
use Rattle.slang_tree.specs.declared.types.GenericArgument.TheOpen.{GenericArgument-F, TypeNode-F, TypeTree-F}
use Rattle.slang_tree.specs.declared.types.GenericArgument.TheOpen as t
use Rattle.slang_tree.specs.declared.statements.DeclaredName.{DeclaredName}
use Rattle.slang_core.specs.declared.types.TypeTerm.{TypeTerm}
use Rattle.plans.specs.Plans.{line, one, walk}
use Rattle.slang_names.specs.declared.codes.ModuleCode.{ModuleCode}
use Rattle.declared_names.specs.declared.declared.OwnKind.{OwnKind}
use Rattle.declared_names.specs.declared.declared.OwnKind.TheVariants as own
use Rattle.declared_names.specs.declared.declared.MemberKind.{MemberKind}
use Rattle.declared_names.specs.declared.declared.MemberKind.TheVariants as m
use Rattle.module_scope.specs.declared.heads.Outline.{Outline}
use Rattle.module_scope.specs.declared.heads.Spelling.{Spelling}
use Rattle.module_scope.specs.declared.frames.InForce.{InForce}
use Rattle.module_scope.specs.declared.frames.Within.{Within}
use Rattle.module_scope.specs.Sees.{Found, a_member, an_own, look_up, member_named}
use Rattle.module_scope.specs.Known.{nothing_spelled, spelling_at}
use Rattle.type_lines.specs.declared.answers.Standing.{Standing}
use Rattle.type_lines.specs.declared.answers.Standing.TheVariants as st
use Rattle.type_lines.specs.Asked.{is_empty}
use Rattle.type_lines.specs.Classes.{Does, types}
use Rattle.type_lines.specs.TypeLines.{builtin_line, this_type_line, type_name_line, resource_line, nested_line, array_line, length_of}

abbrev pub TypePlan : Type 0
TypePlan = Standing → Outline → Within → List InForce → Does types

abbrev pub argument_step : GenericArgument-F (Unit {0}) (Place → TypePlan) TypePlan → Unit {0}
argument_step x = tt

abbrev pub type_step : TypeNode-F (Unit {0}) (Place → TypePlan) TypePlan → Place → TypePlan
type_step (t.Builtin w) = λ p s o v b. line (builtin_line p s w)
type_step t.ThisType = λ p s o v b. line (this_type_line o v p)
type_step (t.Named n args) = λ p s o v b. line (type_name_line o v b p n (is_empty args))
type_step (t.Resource r x) = λ p s o v b. one (x st.BufferData o v b) (resource_line p s r)
type_step (t.Projection x n) = λ p s o v b. one (x st.Qualifier o v b) (nested_line o n)
type_step (t.Array x n) = λ p s o v b. one (x st.Element o v b) (array_line p (length_of o v b n))

abbrev pub type_tree_step : TypeTree-F (Unit {0}) (Place → TypePlan) TypePlan → TypePlan
type_tree_step x = x.node x.place

abbrev pub type_plan : TypeTree → TypePlan
type_plan = fold-TypeTree (Unit {0}) (Place → TypePlan) TypePlan argument_step type_step type_tree_step

abbrev pub type_node_plan : TypeNode → Place → TypePlan
type_node_plan = fold-TypeNode (Unit {0}) (Place → TypePlan) TypePlan argument_step type_step type_tree_step

-- a declared name makes an array of its type for each bracket, the last one first
abbrev pub next_length : Outline → Within → List InForce → Place → Term → TypeTerm → Does types
next_length o v b p n x = line (array_line p (length_of o v b n) x)

abbrev pub lengths_plan : Outline → Within → List InForce → DeclaredName → TypeTerm → Does types
lengths_plan o v b n x = walk (next_length o v b n.place) (reverse n.lengths) x

-- ---- what a type's spelling tells

abbrev pub is_projected : Bool → Spelling
is_projected b = record { subject = None; is_projected = b }

abbrev pub of_subject : Option ℕ → Bool → Spelling
of_subject s b = record { subject = s; is_projected = b }

abbrev pub spelled_own : Outline → OwnKind → Spelling
spelled_own o (own.Alias n) = spelling_at o n
spelled_own o (own.Struct s) = of_subject (Some s) false
spelled_own o other = nothing_spelled

abbrev pub spelled_found : Outline → Result Found ModuleCode → Spelling
spelled_found o (Ok (an_own x)) = spelled_own o x
spelled_found o (Ok (a_member (m.Alias n))) = spelling_at o n
spelled_found o (Ok (a_member (m.Struct s))) = of_subject (Some s) false
spelled_found o other = nothing_spelled

-- behind a dot: a typedef of a struct, or a nested struct
abbrev pub spelled_member : Outline → Bool → Result MemberKind ModuleCode → Spelling
spelled_member o b (Ok (m.Alias n)) = of_subject (spelling_at o n).subject true
spelled_member o b (Ok (m.Struct s)) = of_subject (Some s) b
spelled_member o b other = is_projected b

abbrev pub spelled_behind : Outline → Identifier → Spelling → Option ℕ → Spelling
spelled_behind o n x (Some s) = spelled_member o x.is_projected (member_named o.declared s n.name n.place.start)
spelled_behind o n x None = is_projected x.is_projected

abbrev pub Spells : Type 0
Spells = Outline → Option ℕ → Spelling

abbrev pub spell_argument : GenericArgument-F (Unit {0}) Spells Spells → Unit {0}
spell_argument x = tt

abbrev pub spell_step : TypeNode-F (Unit {0}) Spells Spells → Spells
spell_step (t.Builtin w) = λ o s. nothing_spelled
spell_step t.ThisType = λ o s. of_subject s false
spell_step (t.Named n args) = λ o s. spelled_found o (look_up o.declared s [] n.name n.place.start)
spell_step (t.Resource r x) = λ o s. is_projected (x o s).is_projected
spell_step (t.Projection x n) = λ o s. spelled_behind o n (x o s) (x o s).subject
spell_step (t.Array x n) = λ o s. is_projected (x o s).is_projected

abbrev pub spell_tree : TypeTree-F (Unit {0}) Spells Spells → Spells
spell_tree x = x.node

abbrev pub spelling : TypeTree → Spells
spelling = fold-TypeTree (Unit {0}) Spells Spells spell_argument spell_step spell_tree

abbrev pub node_spelling : TypeNode → Spells
node_spelling = fold-TypeNode (Unit {0}) Spells Spells spell_argument spell_step spell_tree
