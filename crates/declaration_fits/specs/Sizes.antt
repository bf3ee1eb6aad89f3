-- How many nodes stand on a path of a declaration, how long its lists and its names are, which rules its attributes obey, and
-- what it is to keep the limits. Names behind `where` and `:`, fields, imports and items make lists of any length.
use Rattle.std.specs.Prelude.{ℕ, max, ◌≡◌, Bool, true, ◌||◌, ◌&&◌, if◌then◌else◌, List, length, map}
use Rattle.slang_tree.specs.declared.types.Identifier.{Identifier}
use Rattle.slang_tree.specs.declared.statements.Block.{Block}
use Rattle.slang_tree.specs.declared.declarations.GenericParameter.{GenericParameter}
use Rattle.slang_tree.specs.declared.declarations.GenericParameterNode.{GenericParameterNode}
use Rattle.slang_tree.specs.declared.declarations.GenericParameterNode.TheVariants as g
use Rattle.slang_tree.specs.declared.declarations.Constraint.{Constraint}
use Rattle.slang_tree.specs.declared.declarations.Parameter.{Parameter}
use Rattle.slang_tree.specs.declared.declarations.Function.{Function}
use Rattle.slang_tree.specs.declared.declarations.Alias.{Alias}
use Rattle.slang_tree.specs.declared.declarations.Field.{Field}
use Rattle.slang_tree.specs.declared.declarations.InnerMember.{InnerMember}
use Rattle.slang_tree.specs.declared.declarations.InnerMemberNode.{InnerMemberNode}
use Rattle.slang_tree.specs.declared.declarations.InnerMemberNode.TheVariants as i
use Rattle.slang_tree.specs.declared.declarations.InnerStruct.{InnerStruct}
use Rattle.slang_tree.specs.declared.declarations.Member.{Member}
use Rattle.slang_tree.specs.declared.declarations.MemberNode.{MemberNode}
use Rattle.slang_tree.specs.declared.declarations.MemberNode.TheVariants as n
use Rattle.slang_tree.specs.declared.declarations.Struct.{Struct}
use Rattle.slang_tree.specs.declared.declarations.Requirement.{Requirement}
use Rattle.slang_tree.specs.declared.declarations.RequirementNode.{RequirementNode}
use Rattle.slang_tree.specs.declared.declarations.RequirementNode.TheVariants as r
use Rattle.slang_tree.specs.declared.declarations.Interface.{Interface}
use Rattle.slang_tree.specs.declared.declarations.Extension.{Extension}
use Rattle.slang_tree.specs.declared.declarations.Constant.{Constant}
use Rattle.slang_tree.specs.declared.declarations.Global.{Global}
use Rattle.slang_tree.specs.declared.file.ModuleLine.{ModuleLine}
use Rattle.slang_tree.specs.declared.file.Item.{Item}
use Rattle.slang_tree.specs.declared.file.ItemNode.{ItemNode}
use Rattle.slang_tree.specs.declared.file.ItemNode.TheVariants as d
use Rattle.slang_tree.specs.declared.file.File.{File}
use Rattle.slang_grammar.specs.Descent.{Limits}
use Rattle.slang_grammar.specs.Heights.{greatest}
use Rattle.statement_grammar.specs.declared.attributes.Target.{Target}
use Rattle.statement_grammar.specs.declared.attributes.Target.TheVariants as t
use Rattle.statement_grammar.specs.AttributeRules.{obeys, all_true, stat_obeys}
use Rattle.statement_fits.specs.Sizes.{Count, optional, in_attributes, in_block, Keeps}

-- ---- sizes

module _ (count : Count) where
  -- a list of at most so many items as the limit of lists says
  abbrev pub in_items : {A : Type 0} → (A → ℕ) → List A → ℕ
  in_items f list = max (count.of_length (length list)) (greatest (map f list))

  -- a list of any length
  abbrev pub in_each : {A : Type 0} → (A → ℕ) → List A → ℕ
  in_each f list = greatest (map f list)

  abbrev pub in_names : List Identifier → ℕ
  in_names = in_each count.of_identifier

  -- ---- parts

  abbrev pub in_generic_node : GenericParameterNode → ℕ
  in_generic_node (g.Term id bound) = max (count.of_identifier id) (optional count.of_identifier bound)
  in_generic_node (g.Number id) = count.of_identifier id

  abbrev pub in_generic : GenericParameter → ℕ
  in_generic x = in_generic_node x.node

  abbrev pub in_constraint : Constraint → ℕ
  in_constraint x = max (count.of_identifier x.subject) (in_names x.interfaces)

  abbrev pub in_parameter : Parameter → ℕ
  in_parameter x = max (count.of_type x.kind) (max (count.of_name x.name) (optional count.of_identifier x.semantic))

  -- ---- functions, aliases, fields

  abbrev pub in_function : Function → ℕ
  in_function x = max (count.of_type x.result) (max (count.of_identifier x.name)
      (max (in_items in_generic x.generics) (max (in_items in_parameter x.parameters) (max (in_each in_constraint x.wheres) (in_block count x.body)))))

  abbrev pub in_alias : Alias → ℕ
  in_alias x = max (count.of_type x.kind) (count.of_identifier x.name)

  abbrev pub in_field : Field → ℕ
  in_field x = max (count.of_type x.kind) (in_each count.of_name x.names)

  -- ---- members

  abbrev pub in_inner_node : InnerMemberNode → ℕ
  in_inner_node (i.Alias x) = in_alias x
  in_inner_node (i.Function x) = in_function x
  in_inner_node (i.Field x) = in_field x

  abbrev pub in_inner_member : InnerMember → ℕ
  in_inner_member x = max (in_attributes count x.attributes) (in_inner_node x.node)

  -- what stands between `struct` and the opening brace
  abbrev pub in_head : Identifier → List GenericParameter → List Identifier → List Constraint → ℕ
  in_head id generics heads wheres = max (count.of_identifier id) (max (in_items in_generic generics) (max (in_names heads) (in_each in_constraint wheres)))

  abbrev pub in_inner_struct : InnerStruct → ℕ
  in_inner_struct x = max (in_head x.name x.generics x.heads x.wheres) (in_items in_inner_member x.members)

  abbrev pub in_member_node : MemberNode → ℕ
  in_member_node (n.Struct x) = in_inner_struct x
  in_member_node (n.Alias x) = in_alias x
  in_member_node (n.Function x) = in_function x
  in_member_node (n.Field x) = in_field x

  abbrev pub in_member : Member → ℕ
  in_member x = max (in_attributes count x.attributes) (in_member_node x.node)

  abbrev pub in_struct : Struct → ℕ
  in_struct x = max (in_head x.name x.generics x.heads x.wheres) (in_items in_member x.members)

  -- ---- interfaces and extensions

  abbrev pub in_requirement_node : RequirementNode → ℕ
  in_requirement_node (r.Associated id bound) = max (count.of_identifier id) (optional count.of_identifier bound)
  in_requirement_node (r.Function attributes is_static x id parameters) =
      max (in_attributes count attributes) (max (count.of_type x) (max (count.of_identifier id) (in_items in_parameter parameters)))

  abbrev pub in_requirement : Requirement → ℕ
  in_requirement x = in_requirement_node x.node

  abbrev pub in_interface : Interface → ℕ
  in_interface x = max (count.of_identifier x.name) (in_items in_requirement x.requirements)

  abbrev pub in_extension : Extension → ℕ
  in_extension x = max (in_head x.name x.generics x.heads x.wheres) (max (in_items count.of_identifier x.arguments) (in_items in_inner_member x.members))

  -- ---- items and files

  abbrev pub in_constant : Constant → ℕ
  in_constant x = max (count.of_type x.kind) (max (count.of_identifier x.name) (count.of_value x.value))

  abbrev pub in_global : Global → ℕ
  in_global x = max (count.of_type x.kind) (count.of_identifier x.name)

  abbrev pub in_item_node : ItemNode → ℕ
  in_item_node (d.Struct x) = in_struct x
  in_item_node (d.Interface x) = in_interface x
  in_item_node (d.Extension x) = in_extension x
  in_item_node (d.Alias x) = in_alias x
  in_item_node (d.Function x) = in_function x
  in_item_node (d.Constant x) = in_constant x
  in_item_node (d.Global x) = in_global x

  abbrev pub in_item : Item → ℕ
  in_item x = max (in_attributes count x.attributes) (in_item_node x.node)

  abbrev pub in_line : ModuleLine → ℕ
  in_line x = count.of_identifier x.name

  abbrev pub in_file : File → ℕ
  in_file x = max (optional in_line x.module) (max (in_each in_line x.imports) (in_each in_item x.items))

-- ---- rules on attributes

-- a function that is a member or is required, and whether it is static
abbrev pub method_target : Bool → Target
method_target is_static = if is_static then t.Other else t.Method

abbrev pub block_obeys : Block → Bool
block_obeys x = all_true (map stat_obeys x.statements)

abbrev pub inner_target : InnerMemberNode → Target
inner_target (i.Function x) = method_target x.is_static
inner_target _ = t.Other

abbrev pub inner_node_obeys : InnerMemberNode → Bool
inner_node_obeys (i.Function x) = block_obeys x.body
inner_node_obeys _ = true

abbrev pub inner_member_obeys : InnerMember → Bool
inner_member_obeys x = obeys (inner_target x.node) x.attributes && inner_node_obeys x.node

abbrev pub member_target : MemberNode → Target
member_target (n.Function x) = method_target x.is_static
member_target _ = t.Other

abbrev pub member_node_obeys : MemberNode → Bool
member_node_obeys (n.Struct x) = all_true (map inner_member_obeys x.members)
member_node_obeys (n.Function x) = block_obeys x.body
member_node_obeys _ = true

abbrev pub member_obeys : Member → Bool
member_obeys x = obeys (member_target x.node) x.attributes && member_node_obeys x.node

abbrev pub requirement_node_obeys : RequirementNode → Bool
requirement_node_obeys (r.Function attributes is_static x id parameters) = obeys (method_target is_static) attributes
requirement_node_obeys _ = true

abbrev pub requirement_obeys : Requirement → Bool
requirement_obeys x = requirement_node_obeys x.node

abbrev pub item_target : ItemNode → Target
item_target (d.Function x) = t.Function
item_target (d.Global x) = t.Global
item_target _ = t.Other

abbrev pub item_node_obeys : ItemNode → Bool
item_node_obeys (d.Struct x) = all_true (map member_obeys x.members)
item_node_obeys (d.Interface x) = all_true (map requirement_obeys x.requirements)
item_node_obeys (d.Extension x) = all_true (map inner_member_obeys x.members)
item_node_obeys (d.Function x) = block_obeys x.body
item_node_obeys _ = true

abbrev pub item_obeys : Item → Bool
item_obeys x = obeys (item_target x.node) x.attributes && item_node_obeys x.node

-- ---- limits

pub record FunctionFits (limits : Limits) (nodes : ℕ) (x : Function) : Type 0 where
  pub sizes : Keeps limits nodes (λ count. in_function count x)
  pub rules : (limits.free || block_obeys x.body) ≡ true

pub record InnerMemberFits (limits : Limits) (nodes : ℕ) (x : InnerMember) : Type 0 where
  pub sizes : Keeps limits nodes (λ count. in_inner_member count x)
  pub rules : (limits.free || inner_member_obeys x) ≡ true

pub record MemberFits (limits : Limits) (nodes : ℕ) (x : Member) : Type 0 where
  pub sizes : Keeps limits nodes (λ count. in_member count x)
  pub rules : (limits.free || member_obeys x) ≡ true

pub record RequirementFits (limits : Limits) (nodes : ℕ) (x : Requirement) : Type 0 where
  pub sizes : Keeps limits nodes (λ count. in_requirement count x)
  pub rules : (limits.free || requirement_obeys x) ≡ true

pub record ItemFits (limits : Limits) (nodes : ℕ) (x : Item) : Type 0 where
  pub sizes : Keeps limits nodes (λ count. in_item count x)
  pub rules : (limits.free || item_obeys x) ≡ true

-- at most so many nodes stand on a path, no list and no name is longer than the limit, and all attributes may stand where
-- they do, if the limits are not free
pub record FileFits (limits : Limits) (nodes : ℕ) (x : File) : Type 0 where
  pub sizes : Keeps limits nodes (λ count. in_file count x)
  pub rules : (limits.free || all_true (map item_obeys x.items)) ≡ true
