-- The declarations that a type or an expression of a head needs, by their numbers: those on whose types or values its own
-- typing rests. In a head there are no locals.
use Rattle.std.specs.Prelude.{ℕ, List, [], ◌∷◌, ◌++◌, Option, Some, None, Result, Ok, Err}
use Rattle.slang_names.specs.declared.places.Place.{Place}
use Rattle.slang_names.specs.declared.codes.ModuleCode.{ModuleCode}
use Rattle.slang_tree.specs.declared.types.Identifier.{Identifier}
use Rattle.slang_tree.specs.declared.types.Term.{Term}
use Rattle.slang_tree.specs.declared.types.Term.TheVariants as extent
use Rattle.slang_tree.specs.declared.types.TypeTree.{TypeTree, fold-TypeTree}
use Rattle.slang_tree.specs.declared.types.TypeNode.{TypeNode, fold-TypeNode, map-TypeNode}
use Rattle.slang_tree.specs.declared.types.GenericArgument.TheOpen.{GenericArgument-F, TypeNode-F, TypeTree-F}
use Rattle.slang_tree.specs.declared.types.GenericArgument.TheOpen as t
use Rattle.slang_tree.specs.declared.expressions.ExprTree.{ExprTree, fold-ExprTree}
use Rattle.slang_tree.specs.declared.expressions.ExprNode.{ExprNode, fold-ExprNode, map-ExprNode}
use Rattle.slang_tree.specs.declared.expressions.ExprNode.TheOpen.{ExprNode-F, ExprTree-F}
use Rattle.slang_tree.specs.declared.expressions.ExprNode.TheOpen as e
use Rattle.slang_core.specs.declared.types.TypeTerm.{TypeTerm}
use Rattle.plans.specs.Plans.{run, Verdict, Good}
use Rattle.declared_names.specs.declared.declared.OwnKind.{OwnKind}
use Rattle.declared_names.specs.declared.declared.OwnKind.TheVariants as own
use Rattle.declared_names.specs.declared.declared.MemberKind.{MemberKind}
use Rattle.declared_names.specs.declared.declared.MemberKind.TheVariants as m
use Rattle.module_scope.specs.declared.heads.Outline.{Outline}
use Rattle.module_scope.specs.declared.frames.Within.{Within}
use Rattle.module_scope.specs.Sees.{Found, a_member, an_own, look_up, member_named}
use Rattle.module_scope.specs.Known.{struct_number}
use Rattle.type_lines.specs.declared.answers.Denoted.{Denoted}
use Rattle.type_lines.specs.declared.answers.Denoted.TheVariants as d
use Rattle.type_lines.specs.declared.answers.Standing.TheVariants as st
use Rattle.type_lines.specs.declared.answers.Use.{Use}
use Rattle.type_lines.specs.declared.answers.Use.TheVariants as u
use Rattle.type_lines.specs.Asked.{inner_use}
use Rattle.type_exprs.specs.TypePlans.{TypePlan, type_step}
use Rattle.type_exprs.specs.ExprPlans.{ExprPlan, expr_step}

-- of a member behind a dot, where it is there
abbrev pub of_member : Result MemberKind ModuleCode → (MemberKind → List ℕ) → List ℕ
of_member (Ok x) f = f x
of_member (Err code) f = []

abbrev pub behind : Outline → Identifier → Option ℕ → (MemberKind → List ℕ) → List ℕ
behind o n (Some s) f = of_member (member_named o.declared s n.name n.place.start) f
behind o n None f = []

-- ---- types: aliases, and the constants in brackets

abbrev pub Needs : Type 0
Needs = Outline → Within → List ℕ

abbrev pub alias_member : MemberKind → List ℕ
alias_member (m.Alias n) = n ∷ []
alias_member other = []

abbrev pub alias_own : OwnKind → List ℕ
alias_own (own.Alias n) = n ∷ []
alias_own other = []

abbrev pub alias_found : Result Found ModuleCode → List ℕ
alias_found (Ok (a_member x)) = alias_member x
alias_found (Ok (an_own x)) = alias_own x
alias_found other = []

abbrev pub behind_type : Outline → Identifier → Verdict TypeTerm → List ℕ
behind_type o n (Good x) = behind o n (struct_number o.declared x) alias_member
behind_type o n other = []

abbrev pub constant_found : Result Found ModuleCode → List ℕ
constant_found (Ok (an_own (own.Constant n))) = n ∷ []
constant_found other = []

abbrev pub length_needs : Term → Needs
length_needs (extent.Number p x) o w = []
length_needs (extent.Name x) o w = constant_found (look_up o.declared w.subject [] x.name x.place.start)

abbrev pub lengths_need : List Term → Needs
lengths_need [] o w = []
lengths_need (x ∷ xs) o w = length_needs x o w ++ lengths_need xs o w

-- of each node its plan, and what it needs
abbrev pub NeededTypeNode : Type 0
NeededTypeNode = (Place → TypePlan) × Needs

abbrev pub NeededType : Type 0
NeededType = TypePlan × Needs

abbrev pub type_parts : TypeNode-F (Unit {0}) NeededTypeNode NeededType → Needs
type_parts (t.Named n args) = λ o w. alias_found (look_up o.declared w.subject [] n.name n.place.start)
type_parts (t.Resource r x) = x.1
type_parts (t.Projection x n) = λ o w. x.1 o w ++ behind_type o n (run (x.0 st.Qualifier o w []))
type_parts (t.Array x n) = λ o w. x.1 o w ++ length_needs n o w
type_parts other = λ o w. []

abbrev pub no_argument : GenericArgument-F (Unit {0}) NeededTypeNode NeededType → Unit {0}
no_argument x = tt

abbrev pub type_node_needs : TypeNode-F (Unit {0}) NeededTypeNode NeededType → NeededTypeNode
type_node_needs x = (type_step (map-TypeNode (Unit {0}) NeededTypeNode NeededType (Unit {0}) (Place → TypePlan) TypePlan (λ y. y) (λ y. y.0) (λ y. y.0) x), type_parts x)

abbrev pub type_tree_needs : TypeTree-F (Unit {0}) NeededTypeNode NeededType → NeededType
type_tree_needs x = (x.node.0 x.place, x.node.1)

abbrev pub needed_type : TypeTree → NeededType
needed_type = fold-TypeTree (Unit {0}) NeededTypeNode NeededType no_argument type_node_needs type_tree_needs

abbrev pub needed_type_node : TypeNode → NeededTypeNode
needed_type_node = fold-TypeNode (Unit {0}) NeededTypeNode NeededType no_argument type_node_needs type_tree_needs

abbrev pub type_needs : TypeTree → Needs
type_needs x = (needed_type x).1

-- ---- expressions: functions that are called, fields, constants, globals, and aliases before a dot

abbrev pub ExprNeeds : Type 0
ExprNeeds = Use → Outline → Within → List ℕ

abbrev pub if_called : Use → ℕ → List ℕ
if_called u.Called n = n ∷ []
if_called other n = []

abbrev pub if_qualifier : Use → ℕ → List ℕ
if_qualifier u.Qualifier n = n ∷ []
if_qualifier other n = []

abbrev pub own_needs : Use → OwnKind → List ℕ
own_needs role (own.Function n) = if_called role n
own_needs role (own.Alias n) = if_qualifier role n
own_needs role (own.Constant n) = n ∷ []
own_needs role (own.Global n) = n ∷ []
own_needs role (own.Struct s) = []

abbrev pub name_needs : Use → Result Found ModuleCode → List ℕ
name_needs role (Ok (an_own x)) = own_needs role x
name_needs role other = []

-- a member of a value, and one of a type
abbrev pub value_needs : Use → MemberKind → List ℕ
value_needs role (m.Field n at) = at.declaration ∷ []
value_needs role (m.Method n) = if_called role n
value_needs role other = []

abbrev pub kind_needs : Use → MemberKind → List ℕ
kind_needs role (m.Method n) = if_called role n
kind_needs role (m.Alias n) = if_qualifier role n
kind_needs role other = []

abbrev pub behind_denoted : Outline → Identifier → Use → Verdict Denoted → List ℕ
behind_denoted o n role (Good (d.Value a)) = behind o n (struct_number o.declared a.of) (value_needs role)
behind_denoted o n role (Good (d.Kind (Some x))) = behind o n (struct_number o.declared x) (kind_needs role)
behind_denoted o n role other = []

abbrev pub NeededNode : Type 0
NeededNode = (Place → ExprPlan) × ExprNeeds

abbrev pub NeededExpr : Type 0
NeededExpr = ExprPlan × ExprNeeds

abbrev pub all_need : List NeededExpr → Outline → Within → List ℕ
all_need [] o w = []
all_need (x ∷ xs) o w = x.1 u.Value o w ++ all_need xs o w

abbrev pub expr_parts : ExprNode-F NeededNode NeededExpr → ExprNeeds
expr_parts (e.Name n args) = λ role o w. name_needs role (look_up o.declared w.subject [] n.name n.place.start)
expr_parts (e.Construct word xs) = λ role o w. all_need xs o w
expr_parts (e.Paren x) = λ role o w. x.1 (inner_use role) o w
expr_parts (e.Member x n args) = λ role o w. x.1 u.Qualifier o w ++ behind_denoted o n role (run (x.0 u.Qualifier o w []))
expr_parts (e.Index x y) = λ role o w. x.1 u.Indexed o w ++ y.1 u.Value o w
expr_parts (e.Call f xs) = λ role o w. f.1 u.Called o w ++ all_need xs o w
expr_parts (e.Unary op x) = λ role o w. x.1 u.Value o w
expr_parts (e.Cast word x) = λ role o w. x.1 u.Value o w
expr_parts (e.Binary op x y) = λ role o w. x.1 u.Value o w ++ y.1 u.Value o w
expr_parts (e.Choice x y z) = λ role o w. x.1 u.Value o w ++ y.1 u.Indexed o w ++ z.1 u.Indexed o w
expr_parts other = λ role o w. []

abbrev pub expr_node_needs : ExprNode-F NeededNode NeededExpr → NeededNode
expr_node_needs x = (expr_step (map-ExprNode NeededNode NeededExpr (Place → ExprPlan) ExprPlan (λ y. y.0) (λ y. y.0) x), expr_parts x)

abbrev pub expr_tree_needs : ExprTree-F NeededNode NeededExpr → NeededExpr
expr_tree_needs x = (x.node.0 x.place, x.node.1)

abbrev pub needed_expr : ExprTree → NeededExpr
needed_expr = fold-ExprTree NeededNode NeededExpr expr_node_needs expr_tree_needs

abbrev pub needed_node : ExprNode → NeededNode
needed_node = fold-ExprNode NeededNode NeededExpr expr_node_needs expr_tree_needs

-- of an expression of which a value is wanted
abbrev pub expr_needs : ExprTree → Outline → Within → List ℕ
expr_needs x o w = (needed_expr x).1 u.Value o w
