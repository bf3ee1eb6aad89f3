-- Whether a form that is not built yet stands in the tree of a file: imports, interfaces, extensions, parameters and arguments
-- between `<` and `>`, conformances, constraints, the two buffers of constants, places of bindings, buffers in structs, and
-- buffers of anything but `int` and `uint`.
use Rattle.std.specs.Prelude.{Bool, true, false, ◌||◌, ◌&&◌, not, nat_eq, length, List, [], ◌∷◌, map, Option, Some, None}
use Rattle.slang_tree.specs.declared.types.Builtin.{Builtin}
use Rattle.slang_tree.specs.declared.types.Builtin.TheVariants as w
use Rattle.slang_tree.specs.declared.types.Resource.{Resource}
use Rattle.slang_tree.specs.declared.types.Resource.TheVariants as r
use Rattle.slang_tree.specs.declared.types.TypeTree.{TypeTree, fold-TypeTree}
use Rattle.slang_tree.specs.declared.types.TypeNode.{TypeNode, fold-TypeNode}
use Rattle.slang_tree.specs.declared.types.GenericArgument.TheOpen.{GenericArgument-F, TypeNode-F, TypeTree-F}
use Rattle.slang_tree.specs.declared.types.GenericArgument.TheOpen as t
use Rattle.slang_tree.specs.declared.types.Identifier.{Identifier}
use Rattle.slang_tree.specs.declared.expressions.ExprTree.{ExprTree, fold-ExprTree}
use Rattle.slang_tree.specs.declared.expressions.ExprNode.{ExprNode, fold-ExprNode}
use Rattle.slang_tree.specs.declared.expressions.ExprNode.TheOpen.{ExprNode-F, ExprTree-F}
use Rattle.slang_tree.specs.declared.expressions.ExprNode.TheOpen as e
use Rattle.slang_tree.specs.declared.statements.Attribute.{Attribute}
use Rattle.slang_tree.specs.declared.statements.AttributeNode.{AttributeNode}
use Rattle.slang_tree.specs.declared.statements.AttributeNode.TheVariants as a
use Rattle.slang_tree.specs.declared.statements.Initializer.{Initializer, fold-Initializer}
use Rattle.slang_tree.specs.declared.statements.ListTree.{ListTree, fold-ListTree}
use Rattle.slang_tree.specs.declared.statements.Initializer.TheOpen.{Initializer-F, ListTree-F}
use Rattle.slang_tree.specs.declared.statements.Initializer.TheOpen as l
use Rattle.slang_tree.specs.declared.statements.LocalName.{LocalName}
use Rattle.slang_tree.specs.declared.statements.Local.{Local}
use Rattle.slang_tree.specs.declared.statements.Change.{Change}
use Rattle.slang_tree.specs.declared.statements.ChangeNode.{ChangeNode}
use Rattle.slang_tree.specs.declared.statements.ChangeNode.TheVariants as c
use Rattle.slang_tree.specs.declared.statements.LoopStart.{LoopStart}
use Rattle.slang_tree.specs.declared.statements.LoopStart.TheVariants as b
use Rattle.slang_tree.specs.declared.statements.StatTree.{StatTree, fold-StatTree}
use Rattle.slang_tree.specs.declared.statements.StatNode.{StatNode, fold-StatNode}
use Rattle.slang_tree.specs.declared.statements.StatNode.TheOpen.{StatNode-F, StatTree-F}
use Rattle.slang_tree.specs.declared.statements.StatNode.TheOpen as s
use Rattle.slang_tree.specs.declared.statements.Block.{Block}
use Rattle.slang_tree.specs.declared.declarations.GenericParameter.{GenericParameter}
use Rattle.slang_tree.specs.declared.declarations.Constraint.{Constraint}
use Rattle.slang_tree.specs.declared.declarations.Parameter.{Parameter}
use Rattle.slang_tree.specs.declared.declarations.Function.{Function}
use Rattle.slang_tree.specs.declared.declarations.Field.{Field}
use Rattle.slang_tree.specs.declared.declarations.Struct.{Struct}
use Rattle.slang_tree.specs.declared.declarations.InnerStruct.{InnerStruct}
use Rattle.slang_tree.specs.declared.declarations.InnerMember.{InnerMember}
use Rattle.slang_tree.specs.declared.declarations.InnerMemberNode.{InnerMemberNode}
use Rattle.slang_tree.specs.declared.declarations.InnerMemberNode.TheVariants as i
use Rattle.slang_tree.specs.declared.declarations.Member.{Member}
use Rattle.slang_tree.specs.declared.declarations.MemberNode.{MemberNode}
use Rattle.slang_tree.specs.declared.declarations.MemberNode.TheVariants as m
use Rattle.slang_tree.specs.declared.file.Item.{Item}
use Rattle.slang_tree.specs.declared.file.ItemNode.{ItemNode}
use Rattle.slang_tree.specs.declared.file.ItemNode.TheVariants as d
use Rattle.slang_tree.specs.declared.file.File.{File}

abbrev pub has_items : {X : Type 0} → List X → Bool
has_items xs = not (nat_eq (length xs) 0)

-- it stands in one of these
unfoldable pub some_of : List Bool → Bool
some_of [] = false
some_of (x ∷ xs) = x || some_of xs

abbrev pub optional : {X : Type 0} → (X → Bool) → Option X → Bool
optional f (Some x) = f x
optional f None = false

-- ---- types

abbrev pub whole_word : Builtin → Bool
whole_word w.Int = true
whole_word w.Uint = true
whole_word other = false

abbrev pub is_structured : Resource → Bool
is_structured r.StructuredBuffer = true
is_structured r.RwStructuredBuffer = true
is_structured r.ConstantBuffer = false
is_structured r.ParameterBlock = false

-- what is seen of a type: whether such a form stands in it, whether it is `int` or `uint` alone, whether it is a buffer
pub record Sight : Type 0 where
  pub early : Bool
  pub whole : Bool
  pub buffer : Bool

abbrev pub seen : Bool → Sight
seen b = record { early = b; whole = false; buffer = false }

abbrev pub argument_step : GenericArgument-F (Unit {0}) Sight Sight → Unit {0}
argument_step x = tt

abbrev pub type_step : TypeNode-F (Unit {0}) Sight Sight → Sight
type_step (t.Builtin w) = record { early = false; whole = whole_word w; buffer = false }
type_step t.ThisType = seen false
type_step (t.Named n args) = seen (has_items args)
type_step (t.Resource r x) = record { early = not (is_structured r && x.whole); whole = false; buffer = true }
type_step (t.Projection x n) = seen x.early
type_step (t.Array x n) = seen x.early

abbrev pub type_tree_step : TypeTree-F (Unit {0}) Sight Sight → Sight
type_tree_step x = x.node

abbrev pub sight : TypeTree → Sight
sight = fold-TypeTree (Unit {0}) Sight Sight argument_step type_step type_tree_step

abbrev pub node_sight : TypeNode → Sight
node_sight = fold-TypeNode (Unit {0}) Sight Sight argument_step type_step type_tree_step

abbrev pub in_type : TypeTree → Bool
in_type x = (sight x).early

abbrev pub in_type_node : TypeNode → Bool
in_type_node x = (node_sight x).early

abbrev pub is_whole : TypeTree → Bool
is_whole x = (sight x).whole

abbrev pub is_buffer : TypeTree → Bool
is_buffer x = (sight x).buffer

-- ---- expressions

abbrev pub expr_step : ExprNode-F Bool Bool → Bool
expr_step (e.Number n) = false
expr_step e.True = false
expr_step e.False = false
expr_step e.ThisValue = false
expr_step e.ThisType = false
expr_step (e.Name n args) = has_items args
expr_step (e.Construct w xs) = some_of xs
expr_step (e.Paren x) = x
expr_step (e.Member x n args) = x || has_items args
expr_step (e.Index x y) = x || y
expr_step (e.Call f xs) = f || some_of xs
expr_step (e.Unary o x) = x
expr_step (e.Cast w x) = x
expr_step (e.Binary o x y) = x || y
expr_step (e.Choice x y z) = x || (y || z)

abbrev pub expr_tree_step : ExprTree-F Bool Bool → Bool
expr_tree_step x = x.node

abbrev pub in_expr : ExprTree → Bool
in_expr = fold-ExprTree Bool Bool expr_step expr_tree_step

abbrev pub in_expr_node : ExprNode → Bool
in_expr_node = fold-ExprNode Bool Bool expr_step expr_tree_step

-- ---- statements

abbrev pub initializer_step : Initializer-F Bool Bool → Bool
initializer_step (l.Expression x) = in_expr x
initializer_step (l.List x) = x

abbrev pub list_step : ListTree-F Bool Bool → Bool
list_step x = some_of x.items

abbrev pub in_initializer : Initializer → Bool
in_initializer = fold-Initializer Bool Bool initializer_step list_step

abbrev pub in_list : ListTree → Bool
in_list = fold-ListTree Bool Bool initializer_step list_step

abbrev pub in_local_name : LocalName → Bool
in_local_name x = optional in_initializer x.value

abbrev pub in_local : Local → Bool
in_local x = in_type x.kind || some_of (map in_local_name x.names)

abbrev pub in_change_node : ChangeNode → Bool
in_change_node (c.Assign x y) = in_expr x || in_expr y
in_change_node (c.Update o x y) = in_expr x || in_expr y
in_change_node (c.StepBefore o x) = in_expr x
in_change_node (c.StepBehind x o) = in_expr x
in_change_node (c.Call x) = in_expr x

abbrev pub in_change : Change → Bool
in_change x = in_change_node x.node

abbrev pub in_start : LoopStart → Bool
in_start b.Nothing = false
in_start (b.Local x) = in_local x
in_start (b.Change x) = in_change x

abbrev pub in_head : LoopStart → Option ExprTree → Option Change → Bool
in_head x y z = in_start x || (optional in_expr y || optional in_change z)

abbrev pub stat_step : StatNode-F Bool Bool → Bool
stat_step (s.Block xs) = some_of xs
stat_step (s.Local x) = in_local x
stat_step (s.Change x) = in_change x
stat_step s.Empty = false
stat_step (s.If x y) = in_expr x || y
stat_step (s.IfElse x y z) = in_expr x || (y || z)
stat_step (s.For attrs x y z body) = in_head x y z || body
stat_step (s.While attrs x body) = in_expr x || body
stat_step (s.Return x) = optional in_expr x
stat_step s.Break = false
stat_step s.Continue = false

abbrev pub stat_tree_step : StatTree-F Bool Bool → Bool
stat_tree_step x = x.node

abbrev pub in_stat : StatTree → Bool
in_stat = fold-StatTree Bool Bool stat_step stat_tree_step

abbrev pub in_stat_node : StatNode → Bool
in_stat_node = fold-StatNode Bool Bool stat_step stat_tree_step

abbrev pub in_block : Block → Bool
in_block x = some_of (map in_stat x.statements)

-- ---- declarations

-- parameters between `<` and `>`, heads, and constraints
abbrev pub has_extra : List GenericParameter → List Identifier → List Constraint → Bool
has_extra generics heads wheres = has_items generics || (has_items heads || has_items wheres)

abbrev pub in_parameter : Parameter → Bool
in_parameter x = in_type x.kind

abbrev pub in_function : Function → Bool
in_function x = has_items x.generics || (has_items x.wheres || (in_type x.result || (some_of (map in_parameter x.parameters) || in_block x.body)))

-- a buffer is no field yet
abbrev pub in_field : Field → Bool
in_field x = is_buffer x.kind || in_type x.kind

abbrev pub in_inner_member_node : InnerMemberNode → Bool
in_inner_member_node (i.Alias x) = in_type x.kind
in_inner_member_node (i.Function x) = in_function x
in_inner_member_node (i.Field x) = in_field x

abbrev pub in_inner_member : InnerMember → Bool
in_inner_member x = in_inner_member_node x.node

abbrev pub in_inner_struct : InnerStruct → Bool
in_inner_struct x = has_extra x.generics x.heads x.wheres || some_of (map in_inner_member x.members)

abbrev pub in_member_node : MemberNode → Bool
in_member_node (m.Struct x) = in_inner_struct x
in_member_node (m.Alias x) = in_type x.kind
in_member_node (m.Function x) = in_function x
in_member_node (m.Field x) = in_field x

abbrev pub in_member : Member → Bool
in_member x = in_member_node x.node

abbrev pub in_struct : Struct → Bool
in_struct x = has_extra x.generics x.heads x.wheres || some_of (map in_member x.members)

abbrev pub in_item_node : ItemNode → Bool
in_item_node (d.Struct x) = in_struct x
in_item_node (d.Interface x) = true
in_item_node (d.Extension x) = true
in_item_node (d.Alias x) = in_type x.kind
in_item_node (d.Function x) = in_function x
in_item_node (d.Constant x) = in_type x.kind || in_expr x.value
in_item_node (d.Global x) = in_type x.kind

-- `vk::binding`
abbrev pub is_binding_node : AttributeNode → Bool
is_binding_node (a.Binding n set) = true
is_binding_node (a.Named n xs) = false

abbrev pub is_binding : Attribute → Bool
is_binding x = is_binding_node x.node

abbrev pub in_item : Item → Bool
in_item x = some_of (map is_binding x.attributes) || in_item_node x.node

abbrev pub has_early_form : File → Bool
has_early_form file = has_items file.imports || some_of (map in_item file.items)
