-- The declarations of a file in text order, members behind their struct.
use Rattle.std.specs.Prelude.{ℕ, ◌+◌, Bool, true, false, ◌&&◌, cond, List, [], ◌∷◌, ◌++◌, length, Option, Some, None, fold}
use Rattle.std.specs.List.{list_all}
use Rattle.slang_names.specs.declared.places.Place.{Place}
use Rattle.slang_names.specs.declared.places.Access.{Access}
use Rattle.slang_names.specs.declared.places.Access.TheVariants as a
use Rattle.slang_tree.specs.declared.types.Identifier.{Identifier}
use Rattle.slang_tree.specs.declared.statements.Attribute.{Attribute}
use Rattle.slang_tree.specs.declared.declarations.GenericParameter.{GenericParameter}
use Rattle.slang_tree.specs.declared.declarations.Constraint.{Constraint}
use Rattle.slang_tree.specs.declared.declarations.Alias.{Alias}
use Rattle.slang_tree.specs.declared.declarations.Function.{Function}
use Rattle.slang_tree.specs.declared.declarations.Field.{Field}
use Rattle.slang_tree.specs.declared.declarations.Constant.{Constant}
use Rattle.slang_tree.specs.declared.declarations.Global.{Global}
use Rattle.slang_tree.specs.declared.declarations.Struct.{Struct}
use Rattle.slang_tree.specs.declared.declarations.InnerStruct.{InnerStruct}
use Rattle.slang_tree.specs.declared.declarations.InnerMember.{InnerMember}
use Rattle.slang_tree.specs.declared.declarations.InnerMemberNode.{InnerMemberNode}
use Rattle.slang_tree.specs.declared.declarations.InnerMemberNode.TheVariants as i
use Rattle.slang_tree.specs.declared.declarations.Member.{Member}
use Rattle.slang_tree.specs.declared.declarations.MemberNode.{MemberNode}
use Rattle.slang_tree.specs.declared.declarations.MemberNode.TheVariants as m
use Rattle.slang_tree.specs.declared.file.Item.{Item}
use Rattle.slang_tree.specs.declared.file.ItemNode.{ItemNode}
use Rattle.slang_tree.specs.declared.file.ItemNode.TheVariants as d
use Rattle.slang_tree.specs.declared.file.File.{File}

-- what is declared. A struct has its number, its name, its place, and whether it is plain: without parameters and heads
pub data Node : Type 0 where
  a_struct : ℕ → Identifier → Place → Bool → Node
  an_alias : Alias → Node
  a_function : List Attribute → Function → Node
  some_fields : Field → Node
  a_constant : Constant → Node
  a_global : List Attribute → Global → Node
  an_unbuilt : Place → Node

-- a declaration: its place in the list of all, the number of the struct around, what its path begins with, who may see it
pub record Declaration : Type 0 where
  pub number : ℕ
  pub owner : Option ℕ
  pub prefix : List ℕ
  pub access : Access
  pub node : Node

-- the declarations so far, and how many of them are structs
pub record Listing : Type 0 where
  pub list : List Declaration
  pub structs : ℕ

-- ---- a file without a module line and without access words is open to all

abbrev pub has_no_word : Option Access → Bool
has_no_word None = true
has_no_word (Some a) = false

abbrev pub inner_wordless : InnerMember → Bool
inner_wordless x = has_no_word x.access

abbrev pub member_node_wordless : MemberNode → Bool
member_node_wordless (m.Struct s) = list_all inner_wordless s.members
member_node_wordless other = true

abbrev pub member_wordless : Member → Bool
member_wordless x = has_no_word x.access && member_node_wordless x.node

abbrev pub item_node_wordless : ItemNode → Bool
item_node_wordless (d.Struct s) = list_all member_wordless s.members
item_node_wordless (d.Extension x) = list_all inner_wordless x.members
item_node_wordless other = true

abbrev pub item_wordless : Item → Bool
item_wordless x = has_no_word x.access && item_node_wordless x.node

abbrev pub has_no_line : {A : Type 0} → Option A → Bool
has_no_line None = true
has_no_line (Some x) = false

abbrev pub is_open : File → Bool
is_open file = has_no_line file.module && list_all item_wordless file.items

abbrev pub access_or : Bool → Option Access → Access
access_or bare (Some a) = a
access_or bare None = cond bare a.Public a.Internal

-- ---- the list

abbrev pub with_one_more : Option ℕ → List ℕ → Access → Node → Listing → Listing
with_one_more owner prefix access node l =
    record { list = l.list ++ record { number = length l.list; owner = owner; prefix = prefix; access = access; node = node } ∷ []; structs = l.structs }

abbrev pub with_struct : Listing → Listing
with_struct l = record { list = l.list; structs = l.structs + 1 }

abbrev pub no_items : {A : Type 0} → List A → Bool
no_items [] = true
no_items (x ∷ xs) = false

abbrev pub is_plain : List GenericParameter → List Identifier → List Constraint → Bool
is_plain generics heads wheres = no_items generics && (no_items heads && no_items wheres)

abbrev pub inner_node : List Attribute → InnerMemberNode → Node
inner_node attrs (i.Alias x) = an_alias x
inner_node attrs (i.Function x) = a_function attrs x
inner_node attrs (i.Field x) = some_fields x

-- the path of a struct with a dot
abbrev pub dotted : List ℕ → List ℕ → List ℕ
dotted prefix name = prefix ++ name ++ 46 ∷ []

abbrev pub list_inner_member : Bool → ℕ → List ℕ → Listing → InnerMember → Listing
list_inner_member bare s prefix l x = with_one_more (Some s) prefix (access_or bare x.access) (inner_node x.attributes x.node) l

abbrev pub list_inner : Bool → ℕ → List ℕ → Option Access → InnerStruct → Listing → Listing
list_inner bare s prefix access x l =
    fold (list_inner_member bare l.structs (dotted prefix x.name.name))
    (with_struct (with_one_more (Some s) prefix (access_or bare access) (a_struct l.structs x.name x.place (is_plain x.generics x.heads x.wheres)) l)) x.members

abbrev pub list_member_node : Bool → ℕ → List ℕ → List Attribute → Option Access → Listing → MemberNode → Listing
list_member_node bare s prefix attrs access l (m.Struct x) = list_inner bare s prefix access x l
list_member_node bare s prefix attrs access l (m.Alias x) = with_one_more (Some s) prefix (access_or bare access) (an_alias x) l
list_member_node bare s prefix attrs access l (m.Function x) = with_one_more (Some s) prefix (access_or bare access) (a_function attrs x) l
list_member_node bare s prefix attrs access l (m.Field x) = with_one_more (Some s) prefix (access_or bare access) (some_fields x) l

abbrev pub list_member : Bool → ℕ → List ℕ → Listing → Member → Listing
list_member bare s prefix l x = list_member_node bare s prefix x.attributes x.access l x.node

abbrev pub list_struct : Bool → Option Access → Struct → Listing → Listing
list_struct bare access x l =
    fold (list_member bare l.structs (dotted [] x.name.name))
    (with_struct (with_one_more None [] (access_or bare access) (a_struct l.structs x.name x.place (is_plain x.generics x.heads x.wheres)) l)) x.members

abbrev pub list_item_node : Bool → List Attribute → Option Access → Listing → ItemNode → Listing
list_item_node bare attrs access l (d.Struct x) = list_struct bare access x l
list_item_node bare attrs access l (d.Interface x) = with_one_more None [] (access_or bare access) (an_unbuilt x.place) l
list_item_node bare attrs access l (d.Extension x) = with_one_more None [] (access_or bare access) (an_unbuilt x.place) l
list_item_node bare attrs access l (d.Alias x) = with_one_more None [] (access_or bare access) (an_alias x) l
list_item_node bare attrs access l (d.Function x) = with_one_more None [] (access_or bare access) (a_function attrs x) l
list_item_node bare attrs access l (d.Constant x) = with_one_more None [] (access_or bare access) (a_constant x) l
list_item_node bare attrs access l (d.Global x) = with_one_more None [] (access_or bare access) (a_global attrs x) l

abbrev pub list_item : Bool → Listing → Item → Listing
list_item bare l x = list_item_node bare x.attributes x.access l x.node

abbrev pub nothing_listed : Listing
nothing_listed = record { list = []; structs = 0 }

-- all declarations of a file
abbrev pub declarations : File → List Declaration
declarations file = (fold (list_item (is_open file)) nothing_listed file.items).list
