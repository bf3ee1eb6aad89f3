-- Declarations and whole files: which tokens spell which. The place of a declaration is without its attributes and its
-- access word; that of a requirement begins with its attributes.
use Rattle.std.specs.Prelude.{◌≡◌, ℕ, ◌+◌, Bool, true, false, List, [], ◌∷◌, ◌++◌, drop, Option, Some, None}
use Rattle.slang_names.specs.declared.places.Place.{Place}
use Rattle.slang_names.specs.declared.places.Access.{Access}
use Rattle.slang_names.specs.declared.places.Access.TheVariants as access
use Rattle.slang_tree.specs.declared.types.Identifier.{Identifier}
use Rattle.slang_tree.specs.declared.types.TypeTree.{TypeTree}
use Rattle.slang_tree.specs.declared.expressions.ExprTree.{ExprTree}
use Rattle.slang_tree.specs.declared.statements.Attribute.{Attribute}
use Rattle.slang_tree.specs.declared.statements.DeclaredName.{DeclaredName}
use Rattle.slang_tree.specs.declared.statements.Block.{Block}
use Rattle.slang_tree.specs.declared.declarations.GenericParameter.{GenericParameter}
use Rattle.slang_tree.specs.declared.declarations.Constraint.{Constraint}
use Rattle.slang_tree.specs.declared.declarations.Parameter.{Parameter}
use Rattle.slang_tree.specs.declared.declarations.Function.{Function}
use Rattle.slang_tree.specs.declared.declarations.Alias.{Alias}
use Rattle.slang_tree.specs.declared.declarations.Field.{Field}
use Rattle.slang_tree.specs.declared.declarations.InnerMember.{InnerMember}
use Rattle.slang_tree.specs.declared.declarations.InnerMemberNode.{InnerMemberNode}
use Rattle.slang_tree.specs.declared.declarations.InnerMemberNode.TheVariants as i
use Rattle.slang_tree.specs.declared.declarations.InnerStruct.{InnerStruct}
use Rattle.slang_tree.specs.declared.declarations.Member.{Member}
use Rattle.slang_tree.specs.declared.declarations.MemberNode.{MemberNode}
use Rattle.slang_tree.specs.declared.declarations.MemberNode.TheVariants as n
use Rattle.slang_tree.specs.declared.declarations.Struct.{Struct}
use Rattle.slang_tree.specs.declared.declarations.Requirement.{Requirement}
use Rattle.slang_tree.specs.declared.declarations.RequirementNode.{RequirementNode}
use Rattle.slang_tree.specs.declared.declarations.RequirementNode.TheVariants as r
use Rattle.slang_tree.specs.declared.declarations.Interface.{Interface}
use Rattle.slang_tree.specs.declared.declarations.Extension.{Extension}
use Rattle.slang_tree.specs.declared.declarations.Constant.{Constant}
use Rattle.slang_tree.specs.declared.declarations.Global.{Global}
use Rattle.slang_tree.specs.declared.file.ModuleLine.{ModuleLine}
use Rattle.slang_tree.specs.declared.file.Item.{Item}
use Rattle.slang_tree.specs.declared.file.ItemNode.{ItemNode}
use Rattle.slang_tree.specs.declared.file.ItemNode.TheVariants as d
use Rattle.slang_tree.specs.declared.file.File.{File}
use Rattle.slang_tokens.specs.declared.tokens.Kind.TheVariants as k
use Rattle.slang_tokens.specs.declared.tokens.Mark.TheVariants as m
use Rattle.slang_tokens.specs.declared.tokens.Word.{Word}
use Rattle.slang_tokens.specs.declared.tokens.Word.TheVariants as w
use Rattle.slang_reading.specs.Lexed.{Lexed}
use Rattle.slang_reading.specs.Reading.{first}
use Rattle.slang_reading.specs.Kinds.{span}
use Rattle.slang_grammar.specs.Standing.{Stands, NameStands, IsNot}
use Rattle.slang_grammar.specs.Types.{TypeAt}
use Rattle.slang_grammar.specs.Expressions.{ExprAt}
use Rattle.statement_grammar.specs.Attributes.{AttributesAt, begin_of}
use Rattle.statement_grammar.specs.Statements.{IsNoWord, DeclaredNameAt, BlockAt}
use Rattle.declaration_grammar.specs.Parts.{AccessAt, NamesAt, GenericsAt, HeadsAt, ConstraintsAt, ParametersAt, ClosedAt}

-- ---- functions, aliases, fields

-- whether it is static, its type, and where it begins
pub data ResultAt (ts : List Lexed) : Bool → TypeTree → Place → ℕ → ℕ → Type 0 where
  plain : {from to : ℕ} {t : TypeTree} → TypeAt ts t from to → ResultAt ts false t t.place from to
  static : {from to : ℕ} {p : Place} {t : TypeTree} → Stands ts from (k.Word w.Static) p → TypeAt ts t (from + 1) to → ResultAt ts true t p from to

abbrev pub function_of : Place → Bool → TypeTree → Identifier → List GenericParameter → List Parameter → List Constraint → Block → Function
function_of begin is_static t id generics parameters wheres body =
    record { place = span begin body.place; is_static = is_static; result = t; name = id; generics = generics; parameters = parameters; wheres = wheres; body = body }

pub data FunctionAt (ts : List Lexed) : Function → ℕ → ℕ → Type 0 where
  function : {from mid at to next end : ℕ} {begin : Place} {is_static : Bool} {t : TypeTree} {id : Identifier} {generics : List GenericParameter}
      {parameters : List Parameter} {wheres : List Constraint} {body : Block} → ResultAt ts is_static t begin from mid → NameStands ts mid id → GenericsAt ts generics (mid + 1) at →
      ParametersAt ts parameters at to → ConstraintsAt ts [] wheres to next → BlockAt ts body next end →
      FunctionAt ts (function_of begin is_static t id generics parameters wheres body) from end

abbrev pub alias_of : Place → TypeTree → Identifier → Alias
alias_of p t id = record { place = p; kind = t; name = id }

pub data AliasAt (ts : List Lexed) : Alias → ℕ → ℕ → Type 0 where
  type_def : {from mid : ℕ} {p end : Place} {t : TypeTree} {id : Identifier} → Stands ts from (k.Word w.TypeDef) p → TypeAt ts t (from + 1) mid → NameStands ts mid id →
      Stands ts (mid + 1) (k.Mark m.Semicolon) end → AliasAt ts (alias_of (span p end) t id) from (mid + 1 + 1)
  type_alias : {from at : ℕ} {p q end : Place} {t : TypeTree} {id : Identifier} → Stands ts from (k.Word w.TypeAlias) p → NameStands ts (from + 1) id →
      Stands ts (from + 1 + 1) (k.Mark m.Equal) q → TypeAt ts t (from + 1 + 1 + 1) at → Stands ts at (k.Mark m.Semicolon) end →
      AliasAt ts (alias_of (span p end) t id) from (at + 1)

-- the declared names so far go on to be that list
pub data MoreFieldsAt (ts : List Lexed) : List DeclaredName → List DeclaredName → ℕ → ℕ → Type 0 where
  end : {at : ℕ} {list : List DeclaredName} → MoreFieldsAt ts list list at at
  more : {from mid to : ℕ} {p last : Place} {x : DeclaredName} {list all : List DeclaredName} → Stands ts from (k.Mark m.Comma) p → DeclaredNameAt ts x last (from + 1) mid →
      MoreFieldsAt ts (list ++ x ∷ []) all mid to → MoreFieldsAt ts list all from to

abbrev pub field_of : Place → TypeTree → List DeclaredName → Field
field_of p t list = record { place = p; kind = t; names = list }

pub data FieldAt (ts : List Lexed) : Field → ℕ → ℕ → Type 0 where
  field : {from mid next at : ℕ} {last end : Place} {t : TypeTree} {x : DeclaredName} {all : List DeclaredName} → TypeAt ts t from mid → DeclaredNameAt ts x last mid next →
      MoreFieldsAt ts (x ∷ []) all next at → Stands ts at (k.Mark m.Semicolon) end → FieldAt ts (field_of (span t.place end) t all) from (at + 1)

-- ---- members of extensions, which have no fields, and of structs in structs

pub data InnerNodeAt (ts : List Lexed) : Bool → InnerMemberNode → ℕ → ℕ → Type 0 where
  alias : {fields : Bool} {from to : ℕ} {x : Alias} → AliasAt ts x from to → InnerNodeAt ts fields (i.Alias x) from to
  function : {fields : Bool} {from to : ℕ} {x : Function} → FunctionAt ts x from to → InnerNodeAt ts fields (i.Function x) from to
  field : {from to : ℕ} {x : Field} → FieldAt ts x from to → InnerNodeAt ts true (i.Field x) from to

abbrev pub inner_member : List Attribute → Option Access → InnerMemberNode → InnerMember
inner_member attributes access x = record { attributes = attributes; access = access; node = x }

-- the members so far go on to be that list, up to the closing brace; the first mark says whether fields may stand there
pub data InnerMembersAt (ts : List Lexed) : Bool → List InnerMember → List InnerMember → ℕ → ℕ → Type 0 where
  end : {fields : Bool} {at : ℕ} {p : Place} {list : List InnerMember} → Stands ts at (k.Mark m.CloseBrace) p → InnerMembersAt ts fields list list at at
  more : {fields : Bool} {from mid next at to : ℕ} {attributes : List Attribute} {access : Option Access} {x : InnerMemberNode} {list all : List InnerMember} →
      AttributesAt ts [] attributes from mid → AccessAt ts access mid next → InnerNodeAt ts fields x next at →
      InnerMembersAt ts fields (list ++ inner_member attributes access x ∷ []) all at to → InnerMembersAt ts fields list all from to

-- ---- structs

-- what stands between `struct` and the opening brace, and that brace
pub data StructHeadAt (ts : List Lexed) : Identifier → List GenericParameter → List Identifier → List Constraint → ℕ → ℕ → Type 0 where
  head : {from mid at to : ℕ} {p : Place} {id : Identifier} {generics : List GenericParameter} {heads : List Identifier} {wheres : List Constraint} → NameStands ts from id →
      GenericsAt ts generics (from + 1) mid → HeadsAt ts heads mid at → ConstraintsAt ts [] wheres at to → Stands ts to (k.Mark m.OpenBrace) p →
      StructHeadAt ts id generics heads wheres from (to + 1)

abbrev pub inner_struct_of : Place → Identifier → List GenericParameter → List Identifier → List Constraint → List InnerMember → InnerStruct
inner_struct_of p id generics heads wheres members = record { place = p; name = id; generics = generics; heads = heads; wheres = wheres; members = members }

pub data InnerStructAt (ts : List Lexed) : InnerStruct → ℕ → ℕ → Type 0 where
  inner_struct : {from mid at to : ℕ} {p end : Place} {id : Identifier} {generics : List GenericParameter} {heads : List Identifier} {wheres : List Constraint}
      {members : List InnerMember} → Stands ts from (k.Word w.Struct) p → StructHeadAt ts id generics heads wheres (from + 1) mid → InnerMembersAt ts true [] members mid at →
      ClosedAt ts end at to → InnerStructAt ts (inner_struct_of (span p end) id generics heads wheres members) from to

pub data MemberNodeAt (ts : List Lexed) : MemberNode → ℕ → ℕ → Type 0 where
  struct : {from to : ℕ} {x : InnerStruct} → InnerStructAt ts x from to → MemberNodeAt ts (n.Struct x) from to
  alias : {from to : ℕ} {x : Alias} → AliasAt ts x from to → MemberNodeAt ts (n.Alias x) from to
  function : {from to : ℕ} {x : Function} → FunctionAt ts x from to → MemberNodeAt ts (n.Function x) from to
  field : {from to : ℕ} {x : Field} → FieldAt ts x from to → MemberNodeAt ts (n.Field x) from to

abbrev pub member_of : List Attribute → Option Access → MemberNode → Member
member_of attributes access x = record { attributes = attributes; access = access; node = x }

-- the members so far go on to be that list, up to the closing brace
pub data MembersAt (ts : List Lexed) : List Member → List Member → ℕ → ℕ → Type 0 where
  end : {at : ℕ} {p : Place} {list : List Member} → Stands ts at (k.Mark m.CloseBrace) p → MembersAt ts list list at at
  more : {from mid next at to : ℕ} {attributes : List Attribute} {access : Option Access} {x : MemberNode} {list all : List Member} → AttributesAt ts [] attributes from mid →
      AccessAt ts access mid next → MemberNodeAt ts x next at → MembersAt ts (list ++ member_of attributes access x ∷ []) all at to → MembersAt ts list all from to

abbrev pub struct_of : Place → Identifier → List GenericParameter → List Identifier → List Constraint → List Member → Struct
struct_of p id generics heads wheres members = record { place = p; name = id; generics = generics; heads = heads; wheres = wheres; members = members }

pub data StructAt (ts : List Lexed) : Struct → ℕ → ℕ → Type 0 where
  struct : {from mid at to : ℕ} {p end : Place} {id : Identifier} {generics : List GenericParameter} {heads : List Identifier} {wheres : List Constraint} {members : List Member} →
      Stands ts from (k.Word w.Struct) p → StructHeadAt ts id generics heads wheres (from + 1) mid → MembersAt ts [] members mid at → ClosedAt ts end at to →
      StructAt ts (struct_of (span p end) id generics heads wheres members) from to

-- ---- interfaces

-- the bound of an associated type
pub data BoundAt (ts : List Lexed) : Option Identifier → ℕ → ℕ → Type 0 where
  no_bound : {at : ℕ} → IsNot ts m.Colon at → BoundAt ts None at at
  bound : {at : ℕ} {p : Place} {id : Identifier} → Stands ts at (k.Mark m.Colon) p → NameStands ts (at + 1) id → BoundAt ts (Some id) at (at + 1 + 1)

abbrev pub requirement_of : Place → RequirementNode → Requirement
requirement_of p x = record { place = p; node = x }

pub data RequirementAt (ts : List Lexed) : Requirement → ℕ → ℕ → Type 0 where
  associated : {from at : ℕ} {p end : Place} {id : Identifier} {bound : Option Identifier} → Stands ts from (k.Word w.AssociatedType) p → NameStands ts (from + 1) id →
      BoundAt ts bound (from + 1 + 1) at → Stands ts at (k.Mark m.Semicolon) end → RequirementAt ts (requirement_of (span p end) (r.Associated id bound)) from (at + 1)
  function : {from mid next at : ℕ} {begin end : Place} {attributes : List Attribute} {is_static : Bool} {t : TypeTree} {id : Identifier} {parameters : List Parameter} →
      AttributesAt ts [] attributes from mid → ResultAt ts is_static t begin mid next → NameStands ts next id → ParametersAt ts parameters (next + 1) at →
      Stands ts at (k.Mark m.Semicolon) end → RequirementAt ts (requirement_of (span (begin_of attributes begin) end) (r.Function attributes is_static t id parameters)) from (at + 1)

-- the requirements so far go on to be that list, up to the closing brace
pub data RequirementsAt (ts : List Lexed) : List Requirement → List Requirement → ℕ → ℕ → Type 0 where
  end : {at : ℕ} {p : Place} {list : List Requirement} → Stands ts at (k.Mark m.CloseBrace) p → RequirementsAt ts list list at at
  more : {from mid to : ℕ} {x : Requirement} {list all : List Requirement} → RequirementAt ts x from mid → RequirementsAt ts (list ++ x ∷ []) all mid to → RequirementsAt ts list all from to

abbrev pub interface_of : Place → Identifier → List Requirement → Interface
interface_of p id list = record { place = p; name = id; requirements = list }

pub data InterfaceAt (ts : List Lexed) : Interface → ℕ → ℕ → Type 0 where
  interface : {from at to : ℕ} {p q end : Place} {id : Identifier} {list : List Requirement} → Stands ts from (k.Word w.Interface) p → NameStands ts (from + 1) id →
      Stands ts (from + 1 + 1) (k.Mark m.OpenBrace) q → RequirementsAt ts [] list (from + 1 + 1 + 1) at → ClosedAt ts end at to →
      InterfaceAt ts (interface_of (span p end) id list) from to

-- ---- extensions

-- the names of the parameters of the struct that is extended
pub data ExtendedAt (ts : List Lexed) : List Identifier → ℕ → ℕ → Type 0 where
  no_arguments : {at : ℕ} → IsNot ts m.Less at → ExtendedAt ts [] at at
  arguments : {from at : ℕ} {p q end : Place} {id : Identifier} {all : List Identifier} → Stands ts from (k.Mark m.Less) p → NameStands ts (from + 1) id →
      NamesAt ts (id ∷ []) all id.place end (from + 1 + 1) at → Stands ts at (k.Mark m.Greater) q → ExtendedAt ts all from (at + 1)

abbrev pub extension_of : Place → List GenericParameter → Identifier → List Identifier → List Identifier → List Constraint → List InnerMember → Extension
extension_of p generics id names heads wheres members =
    record { place = p; generics = generics; name = id; arguments = names; heads = heads; wheres = wheres; members = members }

pub data ExtensionAt (ts : List Lexed) : Extension → ℕ → ℕ → Type 0 where
  extension : {from mid next at to last begin : ℕ} {p q end : Place} {generics : List GenericParameter} {id : Identifier} {arguments heads : List Identifier}
      {wheres : List Constraint} {members : List InnerMember} → Stands ts from (k.Word w.Extension) p → GenericsAt ts generics (from + 1) mid → NameStands ts mid id →
      ExtendedAt ts arguments (mid + 1) next → HeadsAt ts heads next at → ConstraintsAt ts [] wheres at begin → Stands ts begin (k.Mark m.OpenBrace) q →
      InnerMembersAt ts false [] members (begin + 1) last → ClosedAt ts end last to →
      ExtensionAt ts (extension_of (span p end) generics id arguments heads wheres members) from to

-- ---- constants, globals, items

abbrev pub constant_of : Place → TypeTree → Identifier → ExprTree → Constant
constant_of p t id x = record { place = p; kind = t; name = id; value = x }

pub data ConstantAt (ts : List Lexed) : Constant → ℕ → ℕ → Type 0 where
  constant : {from mid at : ℕ} {p q r end : Place} {t : TypeTree} {id : Identifier} {x : ExprTree} → Stands ts from (k.Word w.Static) p → Stands ts (from + 1) (k.Word w.Const) q →
      TypeAt ts t (from + 1 + 1) mid → NameStands ts mid id → Stands ts (mid + 1) (k.Mark m.Equal) r → ExprAt ts x (mid + 1 + 1) at → Stands ts at (k.Mark m.Semicolon) end →
      ConstantAt ts (constant_of (span p end) t id x) from (at + 1)

abbrev pub global_of : Place → TypeTree → Identifier → Global
global_of p t id = record { place = p; kind = t; name = id }

pub data GlobalAt (ts : List Lexed) : Global → ℕ → ℕ → Type 0 where
  global : {from mid : ℕ} {end : Place} {t : TypeTree} {id : Identifier} → TypeAt ts t from mid → NameStands ts mid id → Stands ts (mid + 1) (k.Mark m.Semicolon) end →
      GlobalAt ts (global_of (span t.place end) t id) from (mid + 1 + 1)

pub data ItemNodeAt (ts : List Lexed) : ItemNode → ℕ → ℕ → Type 0 where
  struct : {from to : ℕ} {x : Struct} → StructAt ts x from to → ItemNodeAt ts (d.Struct x) from to
  interface : {from to : ℕ} {x : Interface} → InterfaceAt ts x from to → ItemNodeAt ts (d.Interface x) from to
  extension : {from to : ℕ} {x : Extension} → ExtensionAt ts x from to → ItemNodeAt ts (d.Extension x) from to
  alias : {from to : ℕ} {x : Alias} → AliasAt ts x from to → ItemNodeAt ts (d.Alias x) from to
  -- of the functions only members are static
  function : {from to : ℕ} {x : Function} → FunctionAt ts x from to → x.is_static ≡ false → ItemNodeAt ts (d.Function x) from to
  constant : {from to : ℕ} {x : Constant} → ConstantAt ts x from to → ItemNodeAt ts (d.Constant x) from to
  global : {from to : ℕ} {x : Global} → GlobalAt ts x from to → ItemNodeAt ts (d.Global x) from to

abbrev pub is_private : Option Access → Bool
is_private (Some access.Private) = true
is_private _ = false

abbrev pub item_of : List Attribute → Option Access → ItemNode → Item
item_of attributes access x = record { attributes = attributes; access = access; node = x }

-- the items so far go on to be that list, up to where no token stands
pub data ItemsAt (ts : List Lexed) : List Item → List Item → ℕ → Type 0 where
  end : {at : ℕ} {list : List Item} → first (drop at ts) ≡ None → ItemsAt ts list list at
  more : {from mid next at : ℕ} {attributes : List Attribute} {access : Option Access} {x : ItemNode} {list all : List Item} → AttributesAt ts [] attributes from mid →
      AccessAt ts access mid next → is_private access ≡ false → ItemNodeAt ts x next at → ItemsAt ts (list ++ item_of attributes access x ∷ []) all at → ItemsAt ts list all from

-- ---- files

abbrev pub line_of : Place → Identifier → ModuleLine
line_of p id = record { place = p; name = id }

-- a line that begins with that word
pub data LineAt (ts : List Lexed) : Word → ModuleLine → ℕ → ℕ → Type 0 where
  line : {word : Word} {from : ℕ} {p end : Place} {id : Identifier} → Stands ts from (k.Word word) p → NameStands ts (from + 1) id → Stands ts (from + 1 + 1) (k.Mark m.Semicolon) end →
      LineAt ts word (line_of (span p end) id) from (from + 1 + 1 + 1)

pub data ModuleAt (ts : List Lexed) : Option ModuleLine → ℕ → ℕ → Type 0 where
  no_module : {at : ℕ} → IsNoWord ts w.Module at → ModuleAt ts None at at
  module_line : {from to : ℕ} {x : ModuleLine} → LineAt ts w.Module x from to → ModuleAt ts (Some x) from to

-- the imports so far go on to be that list
pub data ImportsAt (ts : List Lexed) : List ModuleLine → List ModuleLine → ℕ → ℕ → Type 0 where
  end : {at : ℕ} {list : List ModuleLine} → IsNoWord ts w.Import at → ImportsAt ts list list at at
  more : {from mid to : ℕ} {x : ModuleLine} {list all : List ModuleLine} → LineAt ts w.Import x from mid → ImportsAt ts (list ++ x ∷ []) all mid to → ImportsAt ts list all from to

-- the whole text
pub data FileAt (ts : List Lexed) : File → Type 0 where
  file : {mid at : ℕ} {line : Option ModuleLine} {imports : List ModuleLine} {items : List Item} → ModuleAt ts line 0 mid → ImportsAt ts [] imports mid at → ItemsAt ts [] items at →
      FileAt ts (record { «module» = line; imports = imports; items = items })
