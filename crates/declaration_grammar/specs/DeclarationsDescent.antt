-- The descent into declarations and whole files.
use Rattle.std.specs.Prelude.{ℕ, ◌+◌, Bool, true, false, not, ◌||◌, if◌then◌else◌, List, [], ◌∷◌, ◌++◌, length, Option, Some, None}
use Rattle.slang_names.specs.declared.places.Place.{Place}
use Rattle.slang_names.specs.declared.places.Access.{Access}
use Rattle.slang_names.specs.declared.codes.ModuleCode.TheVariants as code
use Rattle.slang_tree.specs.declared.types.Identifier.{Identifier}
use Rattle.slang_tree.specs.declared.types.TypeTree.{TypeTree}
use Rattle.slang_tree.specs.declared.statements.Attribute.{Attribute}
use Rattle.slang_tree.specs.declared.statements.DeclaredName.{DeclaredName}
use Rattle.slang_tree.specs.declared.declarations.GenericParameter.{GenericParameter}
use Rattle.slang_tree.specs.declared.declarations.Constraint.{Constraint}
use Rattle.slang_tree.specs.declared.declarations.Function.{Function}
use Rattle.slang_tree.specs.declared.declarations.Alias.{Alias}
use Rattle.slang_tree.specs.declared.declarations.Field.{Field}
use Rattle.slang_tree.specs.declared.declarations.InnerMember.{InnerMember}
use Rattle.slang_tree.specs.declared.declarations.InnerMemberNode.{InnerMemberNode}
use Rattle.slang_tree.specs.declared.declarations.InnerMemberNode.TheVariants as i
use Rattle.slang_tree.specs.declared.declarations.InnerStruct.{InnerStruct}
use Rattle.slang_tree.specs.declared.declarations.Member.{Member}
use Rattle.slang_tree.specs.declared.declarations.MemberNode.{MemberNode}
use Rattle.slang_tree.specs.declared.declarations.MemberNode.TheVariants as n
use Rattle.slang_tree.specs.declared.declarations.Struct.{Struct}
use Rattle.slang_tree.specs.declared.declarations.Requirement.{Requirement}
use Rattle.slang_tree.specs.declared.declarations.RequirementNode.TheVariants as r
use Rattle.slang_tree.specs.declared.declarations.Interface.{Interface}
use Rattle.slang_tree.specs.declared.declarations.Extension.{Extension}
use Rattle.slang_tree.specs.declared.declarations.Constant.{Constant}
use Rattle.slang_tree.specs.declared.file.ModuleLine.{ModuleLine}
use Rattle.slang_tree.specs.declared.file.Item.{Item}
use Rattle.slang_tree.specs.declared.file.ItemNode.{ItemNode}
use Rattle.slang_tree.specs.declared.file.ItemNode.TheVariants as d
use Rattle.slang_tree.specs.declared.file.File.{File}
use Rattle.slang_tokens.specs.declared.tokens.Kind.{Kind}
use Rattle.slang_tokens.specs.declared.tokens.Kind.TheVariants as k
use Rattle.slang_tokens.specs.declared.tokens.Mark.TheVariants as m
use Rattle.slang_tokens.specs.declared.tokens.Word.{Word}
use Rattle.slang_tokens.specs.declared.tokens.Word.TheVariants as w
use Rattle.slang_reading.specs.Lexed.{Lexed}
use Rattle.slang_reading.specs.Reading.{Parser, Choice, Leave, Take, Refuse, if_fits, ◌>>=◌, ◌>>◌, pure, place_of, next, turns}
use Rattle.slang_reading.specs.Kinds.{sees, sees_word, span}
use Rattle.slang_grammar.specs.Descent.{Limits, fits_in, expect, name, named}
use Rattle.slang_grammar.specs.TypesDescent.{types}
use Rattle.slang_grammar.specs.ExpressionsDescent.{expressions}
use Rattle.statement_grammar.specs.declared.attributes.Target.TheVariants as t
use Rattle.statement_grammar.specs.Attributes.{begin_of}
use Rattle.statement_grammar.specs.AttributesDescent as attributes
use Rattle.statement_grammar.specs.AttributesDescent.{Given, Noted, if_suits}
use Rattle.statement_grammar.specs.Statements.{declared}
use Rattle.statement_grammar.specs.StatementsDescent.{length_more, declared_name, blocks}
use Rattle.declaration_grammar.specs.declared.tables.DeclarationUse.{DeclarationUse}
use Rattle.declaration_grammar.specs.declared.tables.DeclarationUse.TheVariants as u
use Rattle.declaration_grammar.specs.Tables.{declaration_use}
use Rattle.declaration_grammar.specs.Parts.{is_access, access_at}
use Rattle.declaration_grammar.specs.PartsDescent.{Listed, expect_word, access, name_behind, generics, heads, constraints, parameters, closed}
use Rattle.declaration_grammar.specs.Declarations.{function_of, alias_of, field_of, inner_member, inner_struct_of, member_of, struct_of, requirement_of, interface_of, extension_of, constant_of, global_of, is_private, item_of, line_of}

-- what a token begins
abbrev pub use_of : Option Lexed → DeclarationUse
use_of (Some x) = declaration_use x.kind
use_of None = u.Nothing

abbrev pub begins_parameters : Option Lexed → Bool
begins_parameters x = sees m.OpenParen x || sees m.Less x

module _ (limits : Limits) (nodes : ℕ) where
  -- ---- functions, aliases, fields

  -- a type and the name behind it
  abbrev pub TypeName : Type 0
  TypeName = TypeTree × Identifier

  unfoldable pub type_name : Parser TypeName
  type_name = do
    x ← types limits nodes
    id ← name limits
    pure (x.0, id)

  -- behind its name
  unfoldable pub function_rest : Place → Bool → TypeName → Parser Function
  function_rest begin is_static x = do
    g ← generics limits
    list ← parameters limits nodes
    wheres ← constraints limits
    body ← blocks limits nodes
    pure (function_of begin is_static x.0 x.1 g list wheres body)

  -- behind `static`
  unfoldable pub static_rest : Place → Parser Function
  static_rest begin = type_name >>= (λ x. function_rest begin true x)

  unfoldable pub type_def : Place → Parser Alias
  type_def begin = do
    x ← type_name
    end ← expect m.Semicolon
    pure (alias_of (span begin end) x.0 x.1)

  unfoldable pub type_alias : Place → Parser Alias
  type_alias begin = do
    id ← name limits
    expect m.Equal
    x ← types limits nodes
    end ← expect m.Semicolon
    pure (alias_of (span begin end) x.0 id)

  unfoldable pub field_more : List DeclaredName → Parser (List DeclaredName)
  field_more list = do
    expect m.Comma
    x ← declared_name limits
    pure (list ++ x.0 ∷ [])

  -- behind the first name
  unfoldable pub field_rest : TypeName → Parser Field
  field_rest x = do
    lengths ← turns (sees m.OpenBracket) (length_more limits) limits.turns ([], x.1.place)
    list ← turns (sees m.Comma) field_more limits.turns (declared x.1 lengths.0 lengths.1 ∷ [])
    end ← expect m.Semicolon
    pure (field_of (span x.0.place end) x.0 list)

  abbrev pub goes_on_field : Option Lexed → Bool
  goes_on_field x = sees m.OpenBracket x || sees m.Comma x || sees m.Semicolon x

  -- ---- members of extensions and of structs in structs

  abbrev pub in_braces : Option Lexed → Bool
  in_braces x = not (sees m.CloseBrace x)

  module _ (fields : Bool) where
    abbrev pub inner_typed_by : Noted → TypeName → Bool → Bool → Choice InnerMemberNode
    inner_typed_by list x true b = if_suits limits t.Method list (Leave (function_rest x.0.place false x >>= (λ y. pure (i.Function y))))
    inner_typed_by list x false true = if_suits limits t.Other list (Leave (field_rest x >>= (λ y. pure (i.Field y))))
    inner_typed_by list x false false = Refuse

    -- behind a type and a name
    unfoldable pub inner_typed : Noted → TypeName → Parser InnerMemberNode
    inner_typed list x = next (λ o. inner_typed_by list x (begins_parameters o) (if fields then goes_on_field o else false))

    abbrev pub inner_as : Noted → Option Lexed → DeclarationUse → Choice InnerMemberNode
    inner_as list x u.TypeDef = if_suits limits t.Other list (Take (type_def (place_of x) >>= (λ y. pure (i.Alias y))))
    inner_as list x u.TypeAlias = if_suits limits t.Other list (Take (type_alias (place_of x) >>= (λ y. pure (i.Alias y))))
    inner_as list x u.Static = if_suits limits t.Other list (Take (static_rest (place_of x) >>= (λ y. pure (i.Function y))))
    inner_as list x u.Typed = Leave (type_name >>= inner_typed list)
    inner_as list x _ = Refuse

    -- behind attributes and an access word
    unfoldable pub inner_node : Noted → Parser InnerMemberNode
    inner_node list = next (λ x. inner_as list x (use_of x))

    unfoldable pub inner_one : Parser InnerMember
    inner_one = do
      a ← attributes.attributes limits attributes.members
      v ← access
      x ← inner_node a.1
      pure (inner_member a.0 v x)

    abbrev pub inner_begins_as : DeclarationUse → Bool
    inner_begins_as u.TypeDef = true
    inner_begins_as u.TypeAlias = true
    inner_begins_as u.Static = true
    inner_begins_as u.Typed = true
    inner_begins_as _ = false

    abbrev pub inner_begins : Option Lexed → Bool
    inner_begins x = sees m.OpenBracket x || is_access (access_at x) || inner_begins_as (use_of x)

    abbrev pub inner_choice : Option Lexed → Bool → Choice InnerMember
    inner_choice x true = Leave inner_one
    inner_choice x false = Refuse

    -- one more member
    unfoldable pub inner_more : List InnerMember → Parser (List InnerMember)
    inner_more list = next (λ x. if_fits (fits_in limits (length list) limits.items) code.TooLong x (inner_choice x (inner_begins x))) >>= (λ y. pure (list ++ y ∷ []))

    -- up to the closing brace
    unfoldable pub inner_members : Parser (List InnerMember)
    inner_members = turns in_braces inner_more limits.turns []

  -- ---- structs

  -- what stands before the opening brace
  abbrev pub Head : Type 0
  Head = Identifier × List GenericParameter × List Identifier × List Constraint

  unfoldable pub struct_head : Parser Head
  struct_head = do
    id ← name limits
    g ← generics limits
    h ← heads limits
    wheres ← constraints limits
    expect m.OpenBrace
    pure (id, g, h, wheres)

  unfoldable pub inner_struct_rest : Place → Parser InnerStruct
  inner_struct_rest begin = do
    h ← struct_head
    list ← inner_members true
    end ← closed
    pure (inner_struct_of (span begin end) h.0 h.1 h.2 h.3 list)

  abbrev pub member_typed_by : Noted → TypeName → Bool → Bool → Choice MemberNode
  member_typed_by list x true b = if_suits limits t.Method list (Leave (function_rest x.0.place false x >>= (λ y. pure (n.Function y))))
  member_typed_by list x false true = if_suits limits t.Other list (Leave (field_rest x >>= (λ y. pure (n.Field y))))
  member_typed_by list x false false = Refuse

  -- behind a type and a name
  unfoldable pub member_typed : Noted → TypeName → Parser MemberNode
  member_typed list x = next (λ o. member_typed_by list x (begins_parameters o) (goes_on_field o))

  abbrev pub member_as : Noted → Option Lexed → DeclarationUse → Choice MemberNode
  member_as list x u.Struct = if_suits limits t.Other list (Take (inner_struct_rest (place_of x) >>= (λ y. pure (n.Struct y))))
  member_as list x u.TypeDef = if_suits limits t.Other list (Take (type_def (place_of x) >>= (λ y. pure (n.Alias y))))
  member_as list x u.TypeAlias = if_suits limits t.Other list (Take (type_alias (place_of x) >>= (λ y. pure (n.Alias y))))
  member_as list x u.Static = if_suits limits t.Other list (Take (static_rest (place_of x) >>= (λ y. pure (n.Function y))))
  member_as list x u.Typed = Leave (type_name >>= member_typed list)
  member_as list x _ = Refuse

  -- behind attributes and an access word
  unfoldable pub member_node : Noted → Parser MemberNode
  member_node list = next (λ x. member_as list x (use_of x))

  unfoldable pub member_one : Parser Member
  member_one = do
    a ← attributes.attributes limits attributes.members
    v ← access
    x ← member_node a.1
    pure (member_of a.0 v x)

  abbrev pub member_begins_as : DeclarationUse → Bool
  member_begins_as u.Struct = true
  member_begins_as u.TypeDef = true
  member_begins_as u.TypeAlias = true
  member_begins_as u.Static = true
  member_begins_as u.Typed = true
  member_begins_as _ = false

  abbrev pub member_begins : Option Lexed → Bool
  member_begins x = sees m.OpenBracket x || is_access (access_at x) || member_begins_as (use_of x)

  abbrev pub member_choice : Option Lexed → Bool → Choice Member
  member_choice x true = Leave member_one
  member_choice x false = Refuse

  -- one more member
  unfoldable pub member_more : List Member → Parser (List Member)
  member_more list = next (λ x. if_fits (fits_in limits (length list) limits.items) code.TooLong x (member_choice x (member_begins x))) >>= (λ y. pure (list ++ y ∷ []))

  -- behind `struct`
  unfoldable pub struct_rest : Place → Parser Struct
  struct_rest begin = do
    h ← struct_head
    list ← turns in_braces member_more limits.turns []
    end ← closed
    pure (struct_of (span begin end) h.0 h.1 h.2 h.3 list)

  -- ---- interfaces

  abbrev pub bound_by : Bool → Choice (Option Identifier)
  bound_by true = Take (name limits >>= (λ id. pure (Some id)))
  bound_by false = Leave (pure None)

  -- behind `associatedtype`
  unfoldable pub associated : Place → Parser Requirement
  associated begin = do
    id ← name limits
    b ← next (λ x. bound_by (sees m.Colon x))
    end ← expect m.Semicolon
    pure (requirement_of (span begin end) (r.Associated id b))

  -- a function that begins there
  unfoldable pub required : List Attribute → Bool → Place → TypeName → Parser Requirement
  required list is_static begin x = do
    p ← parameters limits nodes
    end ← expect m.Semicolon
    pure (requirement_of (span (begin_of list begin) end) (r.Function list is_static x.0 x.1 p))

  abbrev pub associated_as : List Attribute → Place → Choice Requirement
  associated_as [] begin = Take (associated begin)
  associated_as (x ∷ xs) begin = Refuse

  abbrev pub requirement_as : Given → Option Lexed → DeclarationUse → Choice Requirement
  requirement_as a x u.Associated = associated_as a.0 (place_of x)
  requirement_as a x u.Static = if_suits limits t.Other a.1 (Take (type_name >>= (λ y. required a.0 true (place_of x) y)))
  requirement_as a x u.Typed = if_suits limits t.Method a.1 (Leave (type_name >>= (λ y. required a.0 false y.0.place y)))
  requirement_as a x _ = Refuse

  unfoldable pub requirement : Parser Requirement
  requirement = attributes.attributes limits attributes.members >>= (λ a. next (λ x. requirement_as a x (use_of x)))

  abbrev pub requirement_begins_as : DeclarationUse → Bool
  requirement_begins_as u.Associated = true
  requirement_begins_as u.Static = true
  requirement_begins_as u.Typed = true
  requirement_begins_as _ = false

  abbrev pub requirement_begins : Option Lexed → Bool
  requirement_begins x = sees m.OpenBracket x || requirement_begins_as (use_of x)

  abbrev pub requirement_choice : Option Lexed → Bool → Choice Requirement
  requirement_choice x true = Leave requirement
  requirement_choice x false = Refuse

  -- one more requirement
  unfoldable pub requirement_more : List Requirement → Parser (List Requirement)
  requirement_more list =
      next (λ x. if_fits (fits_in limits (length list) limits.items) code.TooLong x (requirement_choice x (requirement_begins x))) >>= (λ y. pure (list ++ y ∷ []))

  -- behind `interface`
  unfoldable pub interface_rest : Place → Parser Interface
  interface_rest begin = do
    id ← name limits
    expect m.OpenBrace
    list ← turns in_braces requirement_more limits.turns []
    end ← closed
    pure (interface_of (span begin end) id list)

  -- ---- extensions

  -- the name of a parameter behind so many others
  unfoldable pub extended_name : ℕ → Parser Identifier
  extended_name count = next (λ x. if_fits (fits_in limits count limits.items) code.TooLong x (named limits x))

  unfoldable pub extended_more : List Identifier → Parser (List Identifier)
  extended_more list = do
    expect m.Comma
    id ← extended_name (length list)
    pure (list ++ id ∷ [])

  unfoldable pub extended_rest : Parser (List Identifier)
  extended_rest = do
    id ← extended_name 0
    list ← turns (sees m.Comma) extended_more limits.turns (id ∷ [])
    expect m.Greater
    pure list

  abbrev pub extended_by : Bool → Choice (List Identifier)
  extended_by true = Take extended_rest
  extended_by false = Leave (pure [])

  unfoldable pub extended : Parser (List Identifier)
  extended = next (λ x. extended_by (sees m.Less x))

  -- behind `extension`
  unfoldable pub extension_rest : Place → Parser Extension
  extension_rest begin = do
    g ← generics limits
    id ← name limits
    arguments ← extended
    h ← heads limits
    wheres ← constraints limits
    expect m.OpenBrace
    list ← inner_members false
    end ← closed
    pure (extension_of (span begin end) g id arguments h wheres list)

  -- ---- items

  -- behind `static`
  unfoldable pub constant_rest : Place → Parser Constant
  constant_rest begin = do
    expect_word w.Const
    x ← type_name
    expect m.Equal
    v ← expressions limits nodes
    end ← expect m.Semicolon
    pure (constant_of (span begin end) x.0 x.1 v.0)

  abbrev pub item_typed_by : Noted → TypeName → Option Lexed → Bool → Bool → Choice ItemNode
  item_typed_by list x o true b = if_suits limits t.Function list (Leave (function_rest x.0.place false x >>= (λ y. pure (d.Function y))))
  item_typed_by list x o false true = if_suits limits t.Global list (Take (pure (d.Global (global_of (span x.0.place (place_of o)) x.0 x.1))))
  item_typed_by list x o false false = Refuse

  -- behind a type and a name
  unfoldable pub item_typed : Noted → TypeName → Parser ItemNode
  item_typed list x = next (λ o. item_typed_by list x o (begins_parameters o) (sees m.Semicolon o))

  abbrev pub item_as : Noted → Option Lexed → DeclarationUse → Choice ItemNode
  item_as list x u.Struct = if_suits limits t.Other list (Take (struct_rest (place_of x) >>= (λ y. pure (d.Struct y))))
  item_as list x u.Interface = if_suits limits t.Other list (Take (interface_rest (place_of x) >>= (λ y. pure (d.Interface y))))
  item_as list x u.Extension = if_suits limits t.Other list (Take (extension_rest (place_of x) >>= (λ y. pure (d.Extension y))))
  item_as list x u.TypeDef = if_suits limits t.Other list (Take (type_def (place_of x) >>= (λ y. pure (d.Alias y))))
  item_as list x u.TypeAlias = if_suits limits t.Other list (Take (type_alias (place_of x) >>= (λ y. pure (d.Alias y))))
  item_as list x u.Static = if_suits limits t.Other list (Take (constant_rest (place_of x) >>= (λ y. pure (d.Constant y))))
  item_as list x u.Typed = Leave (type_name >>= item_typed list)
  item_as list x u.Associated = Refuse
  item_as list x u.Nothing = Refuse

  -- behind attributes and an access word
  unfoldable pub item_node : Noted → Parser ItemNode
  item_node list = next (λ x. item_as list x (use_of x))

  abbrev pub item_accessed : Option Access → Bool → Choice (Option Access)
  item_accessed a true = Refuse
  item_accessed (Some a) false = Take (pure (Some a))
  item_accessed None false = Leave (pure None)

  -- the access word of an item, which is not private
  unfoldable pub item_access : Parser (Option Access)
  item_access = next (λ x. item_accessed (access_at x) (is_private (access_at x)))

  -- one more item
  unfoldable pub item_more : List Item → Parser (List Item)
  item_more list = do
    a ← attributes.attributes limits attributes.items
    v ← item_access
    x ← item_node a.1
    pure (list ++ item_of a.0 v x ∷ [])

  -- ---- files

  -- behind the word that begins it, which lies there
  unfoldable pub line_rest : Place → Parser ModuleLine
  line_rest begin = do
    id ← name limits
    end ← expect m.Semicolon
    pure (line_of (span begin end) id)

  abbrev pub module_by : Option Lexed → Bool → Choice (Option ModuleLine)
  module_by x true = Take (line_rest (place_of x) >>= (λ y. pure (Some y)))
  module_by x false = Leave (pure None)

  unfoldable pub module_line : Parser (Option ModuleLine)
  module_line = next (λ x. module_by x (sees_word w.Module x))

  unfoldable pub import_more : List ModuleLine → Parser (List ModuleLine)
  import_more list = do
    begin ← expect_word w.Import
    x ← line_rest begin
    pure (list ++ x ∷ [])

  abbrev pub is_token : Option Lexed → Bool
  is_token (Some x) = true
  is_token None = false

  -- the whole text, of which at most so many nodes stand on a path
  unfoldable pub files : Parser File
  files = do
    line ← module_line
    imports ← turns (sees_word w.Import) import_more limits.turns []
    items ← turns is_token item_more limits.turns []
    pure (record { «module» = line; imports = imports; items = items })
