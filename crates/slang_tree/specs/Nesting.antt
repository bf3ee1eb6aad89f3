-- How deep the nodes of a file stand in one another. Nodes are blocks, statements, lists in braces, expressions and
-- types. A term, a declared name with its brackets, a number between `<` and `>` and the word of a cast are none.
use Rattle.std.specs.Prelude.{ℕ, ◌+◌, List, [], ◌∷◌, map, Option, Some, None, nat_lt, if◌then◌else◌}
use Rattle.slang_names.specs.declared.places.Place.{Place}
use Rattle.slang_tree.specs.declared.types.TypeTree.{TypeTree, fold-TypeTree}
use Rattle.slang_tree.specs.declared.types.TypeNode.{TypeNode, fold-TypeNode}
use Rattle.slang_tree.specs.declared.types.GenericArgument.{GenericArgument, fold-GenericArgument}
use Rattle.slang_tree.specs.declared.types.GenericArgument.TheOpen.{GenericArgument-F, TypeNode-F, TypeTree-F}
use Rattle.slang_tree.specs.declared.types.GenericArgument.TheOpen as t
use Rattle.slang_tree.specs.declared.expressions.ExprTree.{ExprTree, fold-ExprTree}
use Rattle.slang_tree.specs.declared.expressions.ExprNode.{ExprNode, fold-ExprNode}
use Rattle.slang_tree.specs.declared.expressions.ExprNode.TheOpen.{ExprNode-F, ExprTree-F}
use Rattle.slang_tree.specs.declared.expressions.ExprNode.TheOpen as e
use Rattle.slang_tree.specs.declared.statements.Initializer.{Initializer, fold-Initializer}
use Rattle.slang_tree.specs.declared.statements.ListTree.{ListTree, fold-ListTree}
use Rattle.slang_tree.specs.declared.statements.Initializer.TheOpen.{Initializer-F, ListTree-F}
use Rattle.slang_tree.specs.declared.statements.Initializer.TheOpen as l
use Rattle.slang_tree.specs.declared.statements.LocalName.{LocalName}
use Rattle.slang_tree.specs.declared.statements.Local.{Local}
use Rattle.slang_tree.specs.declared.statements.Change.{Change}
use Rattle.slang_tree.specs.declared.statements.ChangeNode.{ChangeNode}
use Rattle.slang_tree.specs.declared.statements.ChangeNode.TheVariants as c
use Rattle.slang_tree.specs.declared.statements.LoopStart.{LoopStart}
use Rattle.slang_tree.specs.declared.statements.LoopStart.TheVariants as b
use Rattle.slang_tree.specs.declared.statements.StatTree.{StatTree, fold-StatTree}
use Rattle.slang_tree.specs.declared.statements.StatNode.{StatNode, fold-StatNode}
use Rattle.slang_tree.specs.declared.statements.StatNode.TheOpen.{StatNode-F, StatTree-F}
use Rattle.slang_tree.specs.declared.statements.StatNode.TheOpen as s
use Rattle.slang_tree.specs.declared.statements.Block.{Block}
use Rattle.slang_tree.specs.declared.declarations.Parameter.{Parameter}
use Rattle.slang_tree.specs.declared.declarations.Function.{Function}
use Rattle.slang_tree.specs.declared.declarations.InnerMember.{InnerMember}
use Rattle.slang_tree.specs.declared.declarations.InnerMemberNode.{InnerMemberNode}
use Rattle.slang_tree.specs.declared.declarations.InnerMemberNode.TheVariants as i
use Rattle.slang_tree.specs.declared.declarations.Member.{Member}
use Rattle.slang_tree.specs.declared.declarations.MemberNode.{MemberNode}
use Rattle.slang_tree.specs.declared.declarations.MemberNode.TheVariants as m
use Rattle.slang_tree.specs.declared.declarations.Requirement.{Requirement}
use Rattle.slang_tree.specs.declared.declarations.RequirementNode.{RequirementNode}
use Rattle.slang_tree.specs.declared.declarations.RequirementNode.TheVariants as r
use Rattle.slang_tree.specs.declared.file.Item.{Item}
use Rattle.slang_tree.specs.declared.file.ItemNode.{ItemNode}
use Rattle.slang_tree.specs.declared.file.ItemNode.TheVariants as d
use Rattle.slang_tree.specs.declared.file.File.{File}

-- the first node that is too deep, where so many nodes stand around
abbrev pub Deep : Type 0
Deep = ℕ → Option Place

abbrev pub nothing : Deep
nothing around = None

abbrev pub or_else : Option Place → Option Place → Option Place
or_else (Some p) q = Some p
or_else None q = q

-- the first of one part, and of what follows it
abbrev pub before : Deep → Deep → Deep
before x y around = or_else (x around) (y around)

unfoldable pub first_of : List Deep → Deep
first_of [] around = None
first_of (x ∷ xs) around = or_else (x around) (first_of xs around)

-- a node at that place with these parts: it is too deep where 64 nodes stand around it
abbrev pub node : Place → Deep → Deep
node place parts around = if nat_lt around 64 then parts (around + 1) else Some place

abbrev pub optional : {X : Type 0} → (X → Deep) → Option X → Deep
optional f (Some x) = f x
optional f None = nothing

-- ---- types

abbrev pub argument_step : GenericArgument-F Deep Deep Deep → Deep
argument_step (t.Term x) = x
argument_step (t.Number p n) = nothing

abbrev pub type_step : TypeNode-F Deep Deep Deep → Deep
type_step (t.Builtin w) = nothing
type_step t.ThisType = nothing
type_step (t.Named n args) = first_of args
type_step (t.Resource w x) = x
type_step (t.Projection x n) = x
type_step (t.Array x n) = x

abbrev pub type_tree_step : TypeTree-F Deep Deep Deep → Deep
type_tree_step x = node x.place x.node

abbrev pub deep_type : TypeTree → Deep
deep_type = fold-TypeTree Deep Deep Deep argument_step type_step type_tree_step

abbrev pub deep_type_node : TypeNode → Deep
deep_type_node = fold-TypeNode Deep Deep Deep argument_step type_step type_tree_step

abbrev pub deep_argument : GenericArgument → Deep
deep_argument = fold-GenericArgument Deep Deep Deep argument_step type_step type_tree_step

-- ---- expressions

abbrev pub expr_step : ExprNode-F Deep Deep → Deep
expr_step (e.Number n) = nothing
expr_step e.True = nothing
expr_step e.False = nothing
expr_step e.ThisValue = nothing
expr_step e.ThisType = nothing
expr_step (e.Name n args) = first_of (map deep_argument args)
expr_step (e.Construct w args) = first_of args
expr_step (e.Paren x) = x
expr_step (e.Member x n args) = before x (first_of (map deep_argument args))
expr_step (e.Index x y) = before x y
expr_step (e.Call f args) = before f (first_of args)
expr_step (e.Unary o x) = x
expr_step (e.Cast w x) = x
expr_step (e.Binary o x y) = before x y
expr_step (e.Choice x y z) = before x (before y z)

abbrev pub expr_tree_step : ExprTree-F Deep Deep → Deep
expr_tree_step x = node x.place x.node

abbrev pub deep_expr : ExprTree → Deep
deep_expr = fold-ExprTree Deep Deep expr_step expr_tree_step

abbrev pub deep_expr_node : ExprNode → Deep
deep_expr_node = fold-ExprNode Deep Deep expr_step expr_tree_step

-- ---- statements

abbrev pub initializer_step : Initializer-F Deep Deep → Deep
initializer_step (l.Expression x) = deep_expr x
initializer_step (l.List x) = x

abbrev pub list_step : ListTree-F Deep Deep → Deep
list_step x = node x.place (first_of x.items)

abbrev pub deep_initializer : Initializer → Deep
deep_initializer = fold-Initializer Deep Deep initializer_step list_step

abbrev pub deep_list : ListTree → Deep
deep_list = fold-ListTree Deep Deep initializer_step list_step

abbrev pub deep_local_name : LocalName → Deep
deep_local_name x = optional deep_initializer x.value

abbrev pub deep_local : Local → Deep
deep_local x = before (deep_type x.kind) (first_of (map deep_local_name x.names))

abbrev pub deep_change_node : ChangeNode → Deep
deep_change_node (c.Assign x y) = before (deep_expr x) (deep_expr y)
deep_change_node (c.Update o x y) = before (deep_expr x) (deep_expr y)
deep_change_node (c.StepBefore o x) = deep_expr x
deep_change_node (c.StepBehind x o) = deep_expr x
deep_change_node (c.Call x) = deep_expr x

abbrev pub deep_change : Change → Deep
deep_change x = deep_change_node x.node

abbrev pub deep_start : LoopStart → Deep
deep_start b.Nothing = nothing
deep_start (b.Local x) = deep_local x
deep_start (b.Change x) = deep_change x

abbrev pub stat_step : StatNode-F Deep Deep → Deep
stat_step (s.Block list) = first_of list
stat_step (s.Local x) = deep_local x
stat_step (s.Change x) = deep_change x
stat_step s.Empty = nothing
stat_step (s.If x y) = before (deep_expr x) y
stat_step (s.IfElse x y z) = before (deep_expr x) (before y z)
stat_step (s.For a x y z body) = before (deep_start x) (before (optional deep_expr y) (before (optional deep_change z) body))
stat_step (s.While a x body) = before (deep_expr x) body
stat_step (s.Return x) = optional deep_expr x
stat_step s.Break = nothing
stat_step s.Continue = nothing

abbrev pub stat_tree_step : StatTree-F Deep Deep → Deep
stat_tree_step x = node x.place x.node

abbrev pub deep_stat : StatTree → Deep
deep_stat = fold-StatTree Deep Deep stat_step stat_tree_step

abbrev pub deep_stat_node : StatNode → Deep
deep_stat_node = fold-StatNode Deep Deep stat_step stat_tree_step

abbrev pub deep_block : Block → Deep
deep_block x = node x.place (first_of (map deep_stat x.statements))

-- ---- declarations

abbrev pub deep_parameter : Parameter → Deep
deep_parameter x = deep_type x.kind

abbrev pub deep_function : Function → Deep
deep_function x = before (deep_type x.result) (before (first_of (map deep_parameter x.parameters)) (deep_block x.body))

abbrev pub deep_inner_member_node : InnerMemberNode → Deep
deep_inner_member_node (i.Alias x) = deep_type x.kind
deep_inner_member_node (i.Function x) = deep_function x
deep_inner_member_node (i.Field x) = deep_type x.kind

abbrev pub deep_inner_member : InnerMember → Deep
deep_inner_member x = deep_inner_member_node x.node

abbrev pub deep_member_node : MemberNode → Deep
deep_member_node (m.Struct x) = first_of (map deep_inner_member x.members)
deep_member_node (m.Alias x) = deep_type x.kind
deep_member_node (m.Function x) = deep_function x
deep_member_node (m.Field x) = deep_type x.kind

abbrev pub deep_member : Member → Deep
deep_member x = deep_member_node x.node

abbrev pub deep_requirement_node : RequirementNode → Deep
deep_requirement_node (r.Associated n bound) = nothing
deep_requirement_node (r.Function a static result n parameters) = before (deep_type result) (first_of (map deep_parameter parameters))

abbrev pub deep_requirement : Requirement → Deep
deep_requirement x = deep_requirement_node x.node

abbrev pub deep_item_node : ItemNode → Deep
deep_item_node (d.Struct x) = first_of (map deep_member x.members)
deep_item_node (d.Interface x) = first_of (map deep_requirement x.requirements)
deep_item_node (d.Extension x) = first_of (map deep_inner_member x.members)
deep_item_node (d.Alias x) = deep_type x.kind
deep_item_node (d.Function x) = deep_function x
deep_item_node (d.Constant x) = before (deep_type x.kind) (deep_expr x.value)
deep_item_node (d.Global x) = deep_type x.kind

abbrev pub deep_item : Item → Deep
deep_item x = deep_item_node x.node

-- the first node of a file that stands in 64 others
abbrev pub first_too_deep : File → Option Place
first_too_deep file = first_of (map deep_item file.items) 0
