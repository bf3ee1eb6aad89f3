-- What is spelled of declarations ends no earlier than it begins.
use Rattle.std.proofs.Common.{Bool, ℕ, ◌<◌, ◌≤◌, List, Option, arith}
use Rattle.slang_names.specs.declared.places.Place.{Place}
use Rattle.slang_names.specs.declared.places.Access.{Access}
use Rattle.slang_names.specs.declared.places.Mode.{Mode}
use Rattle.slang_tree.specs.declared.types.Identifier.{Identifier}
use Rattle.slang_tree.specs.declared.types.TypeTree.{TypeTree}
use Rattle.slang_tree.specs.declared.statements.DeclaredName.{DeclaredName}
use Rattle.slang_tree.specs.declared.statements.Block.{Block}
use Rattle.slang_tree.specs.declared.declarations.GenericParameter.{GenericParameter}
use Rattle.slang_tree.specs.declared.declarations.Constraint.{Constraint}
use Rattle.slang_tree.specs.declared.declarations.Parameter.{Parameter}
use Rattle.slang_tree.specs.declared.declarations.Function.{Function}
use Rattle.slang_tree.specs.declared.declarations.Alias.{Alias}
use Rattle.slang_tree.specs.declared.declarations.Field.{Field}
use Rattle.slang_tree.specs.declared.declarations.InnerMember.{InnerMember}
use Rattle.slang_tree.specs.declared.declarations.InnerMemberNode.{InnerMemberNode}
use Rattle.slang_tree.specs.declared.declarations.InnerStruct.{InnerStruct}
use Rattle.slang_tree.specs.declared.declarations.Member.{Member}
use Rattle.slang_tree.specs.declared.declarations.MemberNode.{MemberNode}
use Rattle.slang_tree.specs.declared.declarations.Struct.{Struct}
use Rattle.slang_tree.specs.declared.declarations.Requirement.{Requirement}
use Rattle.slang_tree.specs.declared.declarations.Interface.{Interface}
use Rattle.slang_tree.specs.declared.declarations.Extension.{Extension}
use Rattle.slang_tree.specs.declared.declarations.Constant.{Constant}
use Rattle.slang_tree.specs.declared.declarations.Global.{Global}
use Rattle.slang_tree.specs.declared.file.ModuleLine.{ModuleLine}
use Rattle.slang_tree.specs.declared.file.ItemNode.{ItemNode}
use Rattle.slang_tokens.specs.declared.tokens.Word.{Word}
use Rattle.slang_reading.specs.Lexed.{Lexed}
use Rattle.statement_grammar.specs.Statements as st
use Rattle.statement_grammar.specs.Statements.{BlockAt}
use Rattle.declaration_grammar.specs.Parts as parts
use Rattle.declaration_grammar.specs.Parts.{AccessAt, NamesAt, GenericParameterAt, MoreGenericsAt, GenericsAt, HeadsAt, ConstraintAt, ConstraintsAt, PassedAt, SemanticAt, ParameterAt, MoreParametersAt, ParametersAt, ClosedAt}
use Rattle.declaration_grammar.specs.Declarations as t
use Rattle.declaration_grammar.specs.Declarations.{ResultAt, FunctionAt, AliasAt, MoreFieldsAt, FieldAt, InnerNodeAt, InnerMembersAt, StructHeadAt, InnerStructAt, MemberNodeAt, MembersAt, StructAt, BoundAt, RequirementAt, RequirementsAt, InterfaceAt, ExtendedAt, ExtensionAt, ConstantAt, GlobalAt, ItemNodeAt, LineAt}
use Rattle.statement_fits.proofs.Moves.{type_moves, expr_moves, declared_moves, attributes_move, stats_move}

module _ (ts : List Lexed) where
  -- ---- parts

  pub access_moves : {a : Option Access} {from to : ℕ} → AccessAt ts a from to → from ≤ to
  access_moves (parts.no_access n) = omega arith
  access_moves (parts.access s q) = omega arith

  names_move : {xs ys : List Identifier} {p q : Place} {from to : ℕ} → NamesAt ts xs ys p q from to → from ≤ to
  names_move (parts.end n) = omega arith
  names_move (parts.more s n r) = let a = names_move r in omega (arith, a)

  pub generic_moves : {x : GenericParameter} {from to : ℕ} → GenericParameterAt ts x from to → from ≤ to
  generic_moves (parts.plain n c) = omega arith
  generic_moves (parts.bounded n c b) = omega arith
  generic_moves (parts.number s n c i) = omega arith

  more_generics_move : {xs ys : List GenericParameter} {from to : ℕ} → MoreGenericsAt ts xs ys from to → from ≤ to
  more_generics_move parts.end = omega arith
  more_generics_move (parts.more s v r) = let a = generic_moves v in let b = more_generics_move r in omega (arith, a, b)

  generics_move : {all : List GenericParameter} {from to : ℕ} → GenericsAt ts all from to → from ≤ to
  generics_move (parts.no_generics n) = omega arith
  generics_move (parts.generics o v r c) = let a = generic_moves v in let b = more_generics_move r in omega (arith, a, b)

  heads_move : {all : List Identifier} {from to : ℕ} → HeadsAt ts all from to → from ≤ to
  heads_move (parts.no_heads n) = omega arith
  heads_move (parts.heads o n r) = let a = names_move r in omega (arith, a)

  pub constraint_moves : {x : Constraint} {from to : ℕ} → ConstraintAt ts x from to → from < to
  constraint_moves (parts.constraint o n c i r) = let a = names_move r in omega (arith, a)

  constraints_move : {xs ys : List Constraint} {from to : ℕ} → ConstraintsAt ts xs ys from to → from ≤ to
  constraints_move (parts.end n) = omega arith
  constraints_move (parts.more v r) = let a = constraint_moves v in let b = constraints_move r in omega (arith, a, b)

  passed_moves : {how : Mode} {x : TypeTree} {p : Place} {from to : ℕ} → PassedAt ts how x p from to → from ≤ to
  passed_moves (parts.plain r) = type_moves ts r
  passed_moves (parts.moded s q r) = let a = type_moves ts r in omega (arith, a)

  semantic_moves : {x : Option Identifier} {p q : Place} {from to : ℕ} → SemanticAt ts x p q from to → from ≤ to
  semantic_moves (parts.no_semantic n) = omega arith
  semantic_moves (parts.semantic c n) = omega arith

  pub parameter_moves : {x : Parameter} {from to : ℕ} → ParameterAt ts x from to → from ≤ to
  parameter_moves (parts.parameter r v i) = let a = passed_moves r in let b = declared_moves ts v in let c = semantic_moves i in omega (arith, a, b, c)

  more_parameters_move : {xs ys : List Parameter} {from to : ℕ} → MoreParametersAt ts xs ys from to → from ≤ to
  more_parameters_move parts.end = omega arith
  more_parameters_move (parts.more s v r) = let a = parameter_moves v in let b = more_parameters_move r in omega (arith, a, b)

  parameters_move : {all : List Parameter} {from to : ℕ} → ParametersAt ts all from to → from < to
  parameters_move (parts.no_parameters o c) = omega arith
  parameters_move (parts.parameters o v r c) = let a = parameter_moves v in let b = more_parameters_move r in omega (arith, a, b)

  closed_moves : {p : Place} {from to : ℕ} → ClosedAt ts p from to → from < to
  closed_moves (parts.brace c n) = omega arith
  closed_moves (parts.semicolon c z) = omega arith

  -- ---- functions, aliases, fields

  result_moves : {is_static : Bool} {x : TypeTree} {p : Place} {from to : ℕ} → ResultAt ts is_static x p from to → from ≤ to
  result_moves (t.plain r) = type_moves ts r
  result_moves (t.static s r) = let a = type_moves ts r in omega (arith, a)

  block_moves : {x : Block} {from to : ℕ} → BlockAt ts x from to → from < to
  block_moves (st.block o r) = let a = stats_move ts r in omega (arith, a)

  function_moves : {x : Function} {from to : ℕ} → FunctionAt ts x from to → from < to
  function_moves (t.function r n g l c b) =
      let a1 = result_moves r in let a2 = generics_move g in let a3 = parameters_move l in let a4 = constraints_move c in let a5 = block_moves b in omega (arith, a1, a2, a3, a4, a5)

  alias_moves : {x : Alias} {from to : ℕ} → AliasAt ts x from to → from < to
  alias_moves (t.type_def s r n z) = let a = type_moves ts r in omega (arith, a)
  alias_moves (t.type_alias s n q r z) = let a = type_moves ts r in omega (arith, a)

  more_fields_move : {xs ys : List DeclaredName} {from to : ℕ} → MoreFieldsAt ts xs ys from to → from ≤ to
  more_fields_move t.end = omega arith
  more_fields_move (t.more s v r) = let a = declared_moves ts v in let b = more_fields_move r in omega (arith, a, b)

  field_moves : {x : Field} {from to : ℕ} → FieldAt ts x from to → from < to
  field_moves (t.field r v f z) = let a = type_moves ts r in let b = declared_moves ts v in let c = more_fields_move f in omega (arith, a, b, c)

  -- ---- members

  pub inner_node_moves : {fields : Bool} {x : InnerMemberNode} {from to : ℕ} → InnerNodeAt ts fields x from to → from < to
  inner_node_moves (t.alias r) = alias_moves r
  inner_node_moves (t.function r) = function_moves r
  inner_node_moves (t.field r) = field_moves r

  inner_members_move : {fields : Bool} {xs ys : List InnerMember} {from to : ℕ} → InnerMembersAt ts fields xs ys from to → from ≤ to
  inner_members_move (t.end c) = omega arith
  inner_members_move (t.more a v r l) = let b = attributes_move ts a in let c = access_moves v in let d = inner_node_moves r in let e = inner_members_move l in omega (arith, b, c, d, e)

  head_moves : {id : Identifier} {all : List GenericParameter} {bases : List Identifier} {wheres : List Constraint} {from to : ℕ} → StructHeadAt ts id all bases wheres from to → from ≤ to
  head_moves (t.head n g h c o) = let a = generics_move g in let b = heads_move h in let d = constraints_move c in omega (arith, a, b, d)

  inner_struct_moves : {x : InnerStruct} {from to : ℕ} → InnerStructAt ts x from to → from < to
  inner_struct_moves (t.inner_struct s h l c) = let a = head_moves h in let b = inner_members_move l in let d = closed_moves c in omega (arith, a, b, d)

  pub member_node_moves : {x : MemberNode} {from to : ℕ} → MemberNodeAt ts x from to → from < to
  member_node_moves (t.struct r) = inner_struct_moves r
  member_node_moves (t.alias r) = alias_moves r
  member_node_moves (t.function r) = function_moves r
  member_node_moves (t.field r) = field_moves r

  members_move : {xs ys : List Member} {from to : ℕ} → MembersAt ts xs ys from to → from ≤ to
  members_move (t.end c) = omega arith
  members_move (t.more a v r l) = let b = attributes_move ts a in let c = access_moves v in let d = member_node_moves r in let e = members_move l in omega (arith, b, c, d, e)

  struct_moves : {x : Struct} {from to : ℕ} → StructAt ts x from to → from < to
  struct_moves (t.struct s h l c) = let a = head_moves h in let b = members_move l in let d = closed_moves c in omega (arith, a, b, d)

  -- ---- interfaces and extensions

  bound_moves : {x : Option Identifier} {from to : ℕ} → BoundAt ts x from to → from ≤ to
  bound_moves (t.no_bound n) = omega arith
  bound_moves (t.bound s n) = omega arith

  pub requirement_moves : {x : Requirement} {from to : ℕ} → RequirementAt ts x from to → from < to
  requirement_moves (t.associated s n b z) = let a = bound_moves b in omega (arith, a)
  requirement_moves (t.function a r n l z) = let b = attributes_move ts a in let c = result_moves r in let d = parameters_move l in omega (arith, b, c, d)

  requirements_move : {xs ys : List Requirement} {from to : ℕ} → RequirementsAt ts xs ys from to → from ≤ to
  requirements_move (t.end c) = omega arith
  requirements_move (t.more v l) = let a = requirement_moves v in let b = requirements_move l in omega (arith, a, b)

  interface_moves : {x : Interface} {from to : ℕ} → InterfaceAt ts x from to → from < to
  interface_moves (t.interface s n o l c) = let a = requirements_move l in let b = closed_moves c in omega (arith, a, b)

  extended_moves : {all : List Identifier} {from to : ℕ} → ExtendedAt ts all from to → from ≤ to
  extended_moves (t.no_arguments n) = omega arith
  extended_moves (t.arguments o n r c) = let a = names_move r in omega (arith, a)

  extension_moves : {x : Extension} {from to : ℕ} → ExtensionAt ts x from to → from < to
  extension_moves (t.extension s g n x h c o l z) = let a1 = generics_move g in let a2 = extended_moves x in let a3 = heads_move h in let a4 = constraints_move c in
      let a5 = inner_members_move l in let a6 = closed_moves z in omega (arith, a1, a2, a3, a4, a5, a6)

  -- ---- items and lines

  constant_moves : {x : Constant} {from to : ℕ} → ConstantAt ts x from to → from < to
  constant_moves (t.constant s q r n i y z) = let a = type_moves ts r in let b = expr_moves ts y in omega (arith, a, b)

  global_moves : {x : Global} {from to : ℕ} → GlobalAt ts x from to → from < to
  global_moves (t.global r n z) = let a = type_moves ts r in omega (arith, a)

  pub item_node_moves : {x : ItemNode} {from to : ℕ} → ItemNodeAt ts x from to → from < to
  item_node_moves (t.struct r) = struct_moves r
  item_node_moves (t.interface r) = interface_moves r
  item_node_moves (t.extension r) = extension_moves r
  item_node_moves (t.alias r) = alias_moves r
  item_node_moves (t.function r f) = function_moves r
  item_node_moves (t.constant r) = constant_moves r
  item_node_moves (t.global r) = global_moves r

  pub line_moves : {word : Word} {x : ModuleLine} {from to : ℕ} → LineAt ts word x from to → from < to
  line_moves (t.line s n z) = omega arith
