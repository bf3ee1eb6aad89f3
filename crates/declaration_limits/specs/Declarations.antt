-- The limits and rules on attributes that a declaration or a file breaks, in the order of the tokens at which that is
-- known, where at most d nodes may stand on a path. Fields, imports and items make lists of any length.
use Rattle.std.specs.Prelude.{ℕ, ◌+◌, Bool, List, [], ◌++◌, length, Option}
use Rattle.slang_names.specs.declared.places.Place.{Place}
use Rattle.slang_tree.specs.declared.types.Identifier.{Identifier}
use Rattle.slang_tree.specs.declared.types.TypeTree.{TypeTree}
use Rattle.slang_tree.specs.declared.statements.DeclaredName.{DeclaredName}
use Rattle.slang_tree.specs.declared.statements.Block.{Block}
use Rattle.slang_tree.specs.declared.declarations.GenericParameter.{GenericParameter}
use Rattle.slang_tree.specs.declared.declarations.Constraint.{Constraint}
use Rattle.slang_tree.specs.declared.declarations.Parameter.{Parameter}
use Rattle.slang_tree.specs.declared.declarations.Function.{Function}
use Rattle.slang_tree.specs.declared.declarations.Alias.{Alias}
use Rattle.slang_tree.specs.declared.declarations.Field.{Field}
use Rattle.slang_tree.specs.declared.declarations.InnerMember.{InnerMember}
use Rattle.slang_tree.specs.declared.declarations.InnerMemberNode.{InnerMemberNode}
use Rattle.slang_tree.specs.declared.declarations.InnerStruct.{InnerStruct}
use Rattle.slang_tree.specs.declared.declarations.Member.{Member}
use Rattle.slang_tree.specs.declared.declarations.MemberNode.{MemberNode}
use Rattle.slang_tree.specs.declared.declarations.Struct.{Struct}
use Rattle.slang_tree.specs.declared.declarations.Requirement.{Requirement}
use Rattle.slang_tree.specs.declared.declarations.Interface.{Interface}
use Rattle.slang_tree.specs.declared.declarations.Extension.{Extension}
use Rattle.slang_tree.specs.declared.declarations.Constant.{Constant}
use Rattle.slang_tree.specs.declared.declarations.Global.{Global}
use Rattle.slang_tree.specs.declared.file.ModuleLine.{ModuleLine}
use Rattle.slang_tree.specs.declared.file.Item.{Item}
use Rattle.slang_tree.specs.declared.file.ItemNode.{ItemNode}
use Rattle.slang_tree.specs.declared.file.File.{File}
use Rattle.slang_tokens.specs.declared.tokens.Word.{Word}
use Rattle.slang_reading.specs.Lexed.{Lexed}
use Rattle.slang_reading.specs.Reading.{first}
use Rattle.slang_grammar.specs.Standing.{NameStands}
use Rattle.slang_grammar.specs.Types.{TypeAt}
use Rattle.slang_grammar.specs.Descent.{Limits}
use Rattle.statement_grammar.specs.declared.attributes.Target.{Target}
use Rattle.statement_grammar.specs.declared.attributes.Target.TheVariants as target
use Rattle.statement_grammar.specs.AttributesDescent as attributes
use Rattle.statement_grammar.specs.Statements as st
use Rattle.statement_grammar.specs.Statements.{BlockAt}
use Rattle.declaration_grammar.specs.Parts.{NamesAt, GenericsAt, HeadsAt, ConstraintsAt, ParametersAt}
use Rattle.declaration_grammar.specs.Parts as parts
use Rattle.declaration_grammar.specs.Declarations as t
use Rattle.declaration_grammar.specs.Declarations.{FunctionAt, AliasAt, MoreFieldsAt, FieldAt, InnerNodeAt, InnerMembersAt, StructHeadAt, InnerStructAt, MemberNodeAt, MembersAt, StructAt, BoundAt, RequirementAt, RequirementsAt, InterfaceAt, ExtendedAt, ExtensionAt, ConstantAt, GlobalAt, ItemNodeAt, ItemsAt, LineAt, ModuleAt, ImportsAt, FileAt}
use Rattle.expression_limits.specs.Breaks.{Break, item_behind, name_there}
use Rattle.expression_limits.specs.Types.{type_breaks}
use Rattle.expression_limits.specs.Expressions.{expr_breaks}
use Rattle.statement_limits.specs.Attributes.{attributes_breaks, misfit_breaks}
use Rattle.statement_limits.specs.Locals.{lengths_breaks, declared_breaks}
use Rattle.statement_limits.specs.Statements.{block_breaks}
use Rattle.declaration_limits.specs.Parts.{generics_breaks, heads_breaks, constraints_breaks, parameters_breaks}

-- the attributes before a declaration: what those of them break that may not stand before such a thing, where that is known
-- at that token
abbrev pub Before : Type 0
Before = Target → ℕ → List Break

module _ (ts : List Lexed) (limits : Limits) where
  -- ---- functions, aliases, fields

  -- a type and the name behind it
  abbrev pub typed_breaks : {x : TypeTree} {id : Identifier} {from mid : ℕ} → TypeAt ts x from mid → NameStands ts mid id → ℕ → List Break
  typed_breaks {id = id} {mid = mid} r n d = type_breaks ts limits r d ++ name_there ts limits id mid

  -- what stands behind the name of a function
  abbrev pub body_breaks : {all : List GenericParameter} {list : List Parameter} {wheres : List Constraint} {body : Block} {from mid at last to : ℕ} →
      GenericsAt ts all from mid → ParametersAt ts list mid at → ConstraintsAt ts [] wheres at last → BlockAt ts body last to → ℕ → List Break
  body_breaks g l c b d =
      generics_breaks ts limits g ++ (parameters_breaks ts limits l d ++ (constraints_breaks ts limits c ++ block_breaks ts limits b d))

  -- a function is such a thing, which is known behind its name, unless it is static
  abbrev pub function_breaks : {x : Function} {from to : ℕ} → FunctionAt ts x from to → Target → Before → ℕ → List Break
  function_breaks {from = from} (t.function (t.static s r) n g l c b) what before d =
      before target.Other from ++ (typed_breaks r n d ++ body_breaks g l c b d)
  function_breaks (t.function {mid = mid} (t.plain r) n g l c b) what before d =
      typed_breaks r n d ++ (before what (mid + 1) ++ body_breaks g l c b d)

  abbrev pub alias_breaks : {x : Alias} {from to : ℕ} → AliasAt ts x from to → Before → ℕ → List Break
  alias_breaks {from = from} (t.type_def s r n z) before d = before target.Other from ++ typed_breaks r n d
  alias_breaks {from = from} (t.type_alias {id = id} s n o r z) before d =
      before target.Other from ++ (name_there ts limits id (from + 1) ++ type_breaks ts limits r d)

  abbrev pub more_fields_breaks : {xs ys : List DeclaredName} {from to : ℕ} → MoreFieldsAt ts xs ys from to → List Break
  more_fields_breaks t.end = []
  more_fields_breaks (t.more s v r) = declared_breaks ts limits v ++ more_fields_breaks r

  -- a field is known as one behind its first name
  abbrev pub field_breaks : {x : Field} {from to : ℕ} → FieldAt ts x from to → Before → ℕ → List Break
  field_breaks (t.field {mid = mid} r (st.declared_name n q) v z) before d =
      typed_breaks r n d ++ (before target.Other (mid + 1) ++ (lengths_breaks ts limits q ++ more_fields_breaks v))

  -- ---- members of extensions and of structs in structs

  abbrev pub inner_node_breaks : {fields : Bool} {x : InnerMemberNode} {from to : ℕ} → InnerNodeAt ts fields x from to → Before → ℕ → List Break
  inner_node_breaks (t.alias r) before d = alias_breaks r before d
  inner_node_breaks (t.function r) before d = function_breaks r target.Method before d
  inner_node_breaks (t.field r) before d = field_breaks r before d

  -- a member is an item of a list at its first token
  abbrev pub inner_members_breaks : {fields : Bool} {xs ys : List InnerMember} {from to : ℕ} → InnerMembersAt ts fields xs ys from to → ℕ → List Break
  inner_members_breaks (t.end c) d = []
  inner_members_breaks {xs = xs} {from = from} (t.more a v r l) d =
      (item_behind ts limits (length xs) from ++
      (attributes_breaks ts limits attributes.members a [] ++ inner_node_breaks r (misfit_breaks ts a) d)) ++ inner_members_breaks l d

  -- ---- structs

  -- what stands between `struct` and the opening brace
  abbrev pub head_breaks : {id : Identifier} {all : List GenericParameter} {bases : List Identifier} {wheres : List Constraint} {from to : ℕ} →
      StructHeadAt ts id all bases wheres from to → List Break
  head_breaks {id = id} {from = from} (t.head n g h c o) =
      name_there ts limits id from ++ (generics_breaks ts limits g ++ (heads_breaks ts limits h ++ constraints_breaks ts limits c))

  abbrev pub inner_struct_breaks : {x : InnerStruct} {from to : ℕ} → InnerStructAt ts x from to → Before → ℕ → List Break
  inner_struct_breaks {from = from} (t.inner_struct s h l c) before d = before target.Other from ++ (head_breaks h ++ inner_members_breaks l d)

  abbrev pub member_node_breaks : {x : MemberNode} {from to : ℕ} → MemberNodeAt ts x from to → Before → ℕ → List Break
  member_node_breaks (t.struct r) before d = inner_struct_breaks r before d
  member_node_breaks (t.alias r) before d = alias_breaks r before d
  member_node_breaks (t.function r) before d = function_breaks r target.Method before d
  member_node_breaks (t.field r) before d = field_breaks r before d

  abbrev pub members_breaks : {xs ys : List Member} {from to : ℕ} → MembersAt ts xs ys from to → ℕ → List Break
  members_breaks (t.end c) d = []
  members_breaks {xs = xs} {from = from} (t.more a v r l) d =
      (item_behind ts limits (length xs) from ++
      (attributes_breaks ts limits attributes.members a [] ++ member_node_breaks r (misfit_breaks ts a) d)) ++ members_breaks l d

  abbrev pub struct_breaks : {x : Struct} {from to : ℕ} → StructAt ts x from to → Before → ℕ → List Break
  struct_breaks {from = from} (t.struct s h l c) before d = before target.Other from ++ (head_breaks h ++ members_breaks l d)

  -- ---- interfaces

  abbrev pub bound_breaks : {x : Option Identifier} {from to : ℕ} → BoundAt ts x from to → List Break
  bound_breaks (t.no_bound n) = []
  bound_breaks {from = from} (t.bound {id = id} s n) = name_there ts limits id (from + 1)

  -- a function that is required is known as one at its first token behind attributes
  abbrev pub requirement_breaks : {x : Requirement} {from to : ℕ} → RequirementAt ts x from to → ℕ → List Break
  requirement_breaks {from = from} (t.associated {id = id} s n b z) d = name_there ts limits id (from + 1) ++ bound_breaks b
  requirement_breaks (t.function {mid = mid} a (t.static s r) n l z) d = attributes_breaks ts limits attributes.members a [] ++
      (misfit_breaks ts a target.Other mid ++ (typed_breaks r n d ++ parameters_breaks ts limits l d))
  requirement_breaks (t.function {mid = mid} a (t.plain r) n l z) d = attributes_breaks ts limits attributes.members a [] ++
      (misfit_breaks ts a target.Method mid ++ (typed_breaks r n d ++ parameters_breaks ts limits l d))

  abbrev pub requirements_breaks : {xs ys : List Requirement} {from to : ℕ} → RequirementsAt ts xs ys from to → ℕ → List Break
  requirements_breaks (t.end c) d = []
  requirements_breaks {xs = xs} {from = from} (t.more v l) d = (item_behind ts limits (length xs) from ++ requirement_breaks v d) ++ requirements_breaks l d

  abbrev pub interface_breaks : {x : Interface} {from to : ℕ} → InterfaceAt ts x from to → Before → ℕ → List Break
  interface_breaks {from = from} (t.interface {id = id} s n o l c) before d =
      before target.Other from ++ (name_there ts limits id (from + 1) ++ requirements_breaks l d)

  -- ---- extensions

  -- a name behind so many others
  abbrev pub extended_behind : Identifier → (count : ℕ) → ℕ → List Break
  extended_behind id count at = item_behind ts limits count at ++ name_there ts limits id at

  abbrev pub more_extended_breaks : {xs ys : List Identifier} {p q : Place} {from to : ℕ} → NamesAt ts xs ys p q from to → List Break
  more_extended_breaks (parts.end n) = []
  more_extended_breaks {xs = xs} {from = from} (parts.more {id = id} s n r) = extended_behind id (length xs) (from + 1) ++ more_extended_breaks r

  abbrev pub extended_breaks : {all : List Identifier} {from to : ℕ} → ExtendedAt ts all from to → List Break
  extended_breaks (t.no_arguments n) = []
  extended_breaks {from = from} (t.arguments {id = id} o n r c) = extended_behind id 0 (from + 1) ++ more_extended_breaks r

  abbrev pub extension_breaks : {x : Extension} {from to : ℕ} → ExtensionAt ts x from to → Before → ℕ → List Break
  extension_breaks {from = from} (t.extension {mid = mid} {id = id} s g n x h c o l z) before d =
      before target.Other from ++
      (generics_breaks ts limits g ++
      (name_there ts limits id mid ++
      (extended_breaks x ++ (heads_breaks ts limits h ++ (constraints_breaks ts limits c ++ inner_members_breaks l d)))))

  -- ---- constants, globals, items

  abbrev pub constant_breaks : {x : Constant} {from to : ℕ} → ConstantAt ts x from to → Before → ℕ → List Break
  constant_breaks {from = from} (t.constant s q r n i y z) before d = before target.Other from ++ (typed_breaks r n d ++ expr_breaks ts limits y d)

  -- a global is known as one at its semicolon
  abbrev pub global_breaks : {x : Global} {from to : ℕ} → GlobalAt ts x from to → Before → ℕ → List Break
  global_breaks (t.global {mid = mid} r n z) before d = typed_breaks r n d ++ before target.Global (mid + 1)

  abbrev pub item_node_breaks : {x : ItemNode} {from to : ℕ} → ItemNodeAt ts x from to → Before → ℕ → List Break
  item_node_breaks (t.struct r) before d = struct_breaks r before d
  item_node_breaks (t.interface r) before d = interface_breaks r before d
  item_node_breaks (t.extension r) before d = extension_breaks r before d
  item_node_breaks (t.alias r) before d = alias_breaks r before d
  item_node_breaks (t.function r f) before d = function_breaks r target.Function before d
  item_node_breaks (t.constant r) before d = constant_breaks r before d
  item_node_breaks (t.global r) before d = global_breaks r before d

  abbrev pub items_breaks : {xs ys : List Item} {from : ℕ} → ItemsAt ts xs ys from → ℕ → List Break
  items_breaks (t.end q) d = []
  items_breaks (t.more a v f r l) d = (attributes_breaks ts limits attributes.items a [] ++ item_node_breaks r (misfit_breaks ts a) d) ++ items_breaks l d

  -- ---- files

  abbrev pub line_breaks : {word : Word} {x : ModuleLine} {from to : ℕ} → LineAt ts word x from to → List Break
  line_breaks {from = from} (t.line {id = id} s n z) = name_there ts limits id (from + 1)

  abbrev pub module_breaks : {x : Option ModuleLine} {from to : ℕ} → ModuleAt ts x from to → List Break
  module_breaks (t.no_module n) = []
  module_breaks (t.module_line r) = line_breaks r

  abbrev pub imports_breaks : {xs ys : List ModuleLine} {from to : ℕ} → ImportsAt ts xs ys from to → List Break
  imports_breaks (t.end n) = []
  imports_breaks (t.more v l) = line_breaks v ++ imports_breaks l

  abbrev pub file_breaks : {x : File} → FileAt ts x → ℕ → List Break
  file_breaks (t.file h i l) d = module_breaks h ++ (imports_breaks i ++ items_breaks l d)

  -- the first of them
  abbrev pub file_break : {x : File} → FileAt ts x → ℕ → Option Break
  file_break s d = first (file_breaks s d)
