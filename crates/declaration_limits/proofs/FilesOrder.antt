-- Of what a file breaks the first goes first.
use Rattle.std.proofs.Common.{ℕ, suc, ◌+◌, ◌≤◌, List, [], ◌++◌, length, Option, subst, arith}
use Rattle.std.specs.Prelude.{nat_le, nat_lt}
use Rattle.std.proofs.lemmas.List.{append-nil}
use Rattle.slang_names.specs.declared.places.Place.{Place}
use Rattle.slang_tree.specs.declared.types.Identifier.{Identifier}
use Rattle.slang_tree.specs.declared.types.TypeTree.{TypeTree}
use Rattle.slang_tree.specs.declared.statements.Block.{Block}
use Rattle.slang_tree.specs.declared.statements.StatTree.{StatTree}
use Rattle.slang_tree.specs.declared.declarations.Parameter.{Parameter}
use Rattle.slang_tree.specs.declared.declarations.Function.{Function}
use Rattle.slang_tree.specs.declared.declarations.Alias.{Alias}
use Rattle.slang_tree.specs.declared.declarations.Struct.{Struct}
use Rattle.slang_tree.specs.declared.declarations.Requirement.{Requirement}
use Rattle.slang_tree.specs.declared.declarations.Interface.{Interface}
use Rattle.slang_tree.specs.declared.declarations.Extension.{Extension}
use Rattle.slang_tree.specs.declared.declarations.Constant.{Constant}
use Rattle.slang_tree.specs.declared.declarations.Global.{Global}
use Rattle.slang_tree.specs.declared.file.ModuleLine.{ModuleLine}
use Rattle.slang_tree.specs.declared.file.Item.{Item}
use Rattle.slang_tree.specs.declared.file.ItemNode.{ItemNode}
use Rattle.slang_tree.specs.declared.file.File.{File}
use Rattle.slang_tokens.specs.declared.tokens.Kind.TheVariants as k
use Rattle.slang_tokens.specs.declared.tokens.Mark.TheVariants as m
use Rattle.slang_tokens.specs.declared.tokens.Word.{Word}
use Rattle.slang_reading.specs.Lexed.{Lexed}
use Rattle.slang_grammar.specs.Standing.{Stands, NameStands}
use Rattle.slang_grammar.specs.Types.{TypeAt}
use Rattle.slang_grammar.specs.Descent.{Limits}
use Rattle.statement_grammar.specs.declared.attributes.Target.{Target}
use Rattle.statement_grammar.specs.declared.attributes.Target.TheVariants as target
use Rattle.statement_grammar.specs.AttributesDescent as attributes
use Rattle.statement_grammar.specs.Statements as st
use Rattle.statement_grammar.specs.Statements.{StatsAt, BlockAt}
use Rattle.declaration_grammar.specs.Parts as parts
use Rattle.declaration_grammar.specs.Parts.{NamesAt, ParametersAt, ClosedAt}
use Rattle.declaration_grammar.specs.Declarations as t
use Rattle.declaration_grammar.specs.Declarations.{FunctionAt, AliasAt, StructAt, BoundAt, RequirementAt, RequirementsAt, InterfaceAt, ExtendedAt, ExtensionAt, ConstantAt, GlobalAt, ItemNodeAt, ItemsAt, LineAt, ModuleAt, ImportsAt, FileAt}
use Rattle.statement_fits.proofs.Moves.{attributes_move}
use Rattle.declaration_fits.proofs.Moves.{access_moves, requirement_moves}
use Rattle.expression_limits.specs.Breaks.{Break, name_there}
use Rattle.expression_limits.proofs.Moves.{stands_within, type_moves}
use Rattle.statement_limits.specs.Attributes.{attributes_breaks, misfit_breaks}
use Rattle.statement_limits.proofs.Order.{Rules, Late, late_append, late_rules, far, Known, known_none, known_wider, known_append, known_long, known_rules}
use Rattle.statement_limits.proofs.Late.{late_long, known_expr}
use Rattle.statement_limits.proofs.AttributesOrder.{known_attributes, late_attributes, misfit_rules}
use Rattle.declaration_limits.specs.Parts.{parameters_breaks}
use Rattle.declaration_limits.specs.Declarations.{Before, typed_breaks, struct_breaks, bound_breaks, requirement_breaks, requirements_breaks, interface_breaks, extended_behind, more_extended_breaks, extended_breaks, extension_breaks, constant_breaks, global_breaks, item_node_breaks, items_breaks, line_breaks, module_breaks, imports_breaks, file_breaks}
use Rattle.declaration_limits.proofs.PartsOrder.{known_named, known_generics, known_heads, known_constraints, known_parameters}
use Rattle.declaration_limits.proofs.FunctionsOrder.{known_typed, late_typed, known_word, known_function, known_alias}
use Rattle.declaration_limits.proofs.MembersOrder.{closed_moves, late_behind_attributes, known_inner_members, known_head, known_members}

-- rules that are known at a token
known_settled : (ts : List Lexed) (at : ℕ) (xs : List Break) → Rules at xs → Known ts at (at + 1) xs
known_settled ts at xs h = subst (λ bs. Known ts at (at + 1) bs) (append-nil xs) (known_rules ts at (at + 1) xs (omega arith) h (known_none ts at (at + 1) (omega arith)))

module _ (ts : List Lexed) where
  -- ---- what is spelled ends where tokens stand

  closed_within : {p : Place} {from to : ℕ} → ClosedAt ts p from to → to ≤ length ts
  closed_within {from = from} (parts.brace {p = p} c n) = let u = stands_within ts from (k.Mark m.CloseBrace) p c in omega (arith, u)
  closed_within {from = from} (parts.semicolon {q = q} c z) = let u = stands_within ts (from + 1) (k.Mark m.Semicolon) q z in omega (arith, u)

  semicolon_within : {p : Place} {at : ℕ} → Stands ts at (k.Mark m.Semicolon) p → at + 1 ≤ length ts
  semicolon_within {p = p} {at = at} s = let u = stands_within ts at (k.Mark m.Semicolon) p s in omega (arith, u)

  stats_within : {xs ys : List StatTree} {p : Place} {from to : ℕ} → StatsAt ts xs ys p from to → to ≤ length ts
  stats_within {p = p} (st.end {at = at} c) = let u = stands_within ts at (k.Mark m.CloseBrace) p c in omega (arith, u)
  stats_within (st.more v r) = stats_within r

  block_within : {x : Block} {from to : ℕ} → BlockAt ts x from to → to ≤ length ts
  block_within (st.block o r) = stats_within r

  function_within : {x : Function} {from to : ℕ} → FunctionAt ts x from to → to ≤ length ts
  function_within (t.function r n g l c b) = block_within b

  alias_within : {x : Alias} {from to : ℕ} → AliasAt ts x from to → to ≤ length ts
  alias_within (t.type_def s r n z) = semicolon_within z
  alias_within (t.type_alias s n o r z) = semicolon_within z

  item_node_within : {x : ItemNode} {from to : ℕ} → ItemNodeAt ts x from to → to ≤ length ts
  item_node_within (t.struct (t.struct s h l c)) = closed_within c
  item_node_within (t.interface (t.interface s n o l c)) = closed_within c
  item_node_within (t.extension (t.extension s g n x h c o l z)) = closed_within z
  item_node_within (t.alias r) = alias_within r
  item_node_within (t.function r f) = function_within r
  item_node_within (t.constant (t.constant s q r n i y z)) = semicolon_within z
  item_node_within (t.global (t.global r n z)) = semicolon_within z

  line_within : {word : Word} {x : ModuleLine} {from to : ℕ} → LineAt ts word x from to → to ≤ length ts
  line_within (t.line s n z) = semicolon_within z

  module_within : {x : Option ModuleLine} {to : ℕ} → ModuleAt ts x 0 to → to ≤ length ts
  module_within (t.no_module n) = omega arith
  module_within (t.module_line r) = line_within r

  imports_within : {xs ys : List ModuleLine} {from to : ℕ} → ImportsAt ts xs ys from to → from ≤ length ts → to ≤ length ts
  imports_within (t.end n) l = l
  imports_within (t.more v r) l = imports_within r (line_within v)

  module _ (limits : Limits) (d : ℕ) where
    -- ---- interfaces, with room for a node

    known_bound : {x : Option Identifier} {from to : ℕ} → (s : BoundAt ts x from to) → Known ts from to (bound_breaks ts limits s)
    known_bound {from = from} {to = to} (t.no_bound n) = known_none ts from to (omega arith)
    known_bound {from = from} {to = to} (t.bound {id = id} s n) = known_wider ts (from + 1) (from + 1 + 1) from to (omega arith) (omega arith) (known_named ts limits id (from + 1))

    -- a name and its bound, which stand behind a word
    known_bounded : (id : Identifier) {x : Option Identifier} {from at : ℕ} → (b : BoundAt ts x (from + 1) at) → Known ts from (at + 1) (name_there ts limits id from ++ bound_breaks ts limits b)
    known_bounded id {from = from} {at = at} b = known_append ts from (from + 1) (at + 1) (known_named ts limits id from) (known_wider ts (from + 1) at (from + 1) (at + 1) (omega arith) (omega arith) (known_bound b))

    -- a type, a name and parameters
    known_required : {tree : TypeTree} {id : Identifier} {list : List Parameter} {from mid at : ℕ} → (r : TypeAt ts tree from mid) → (n : NameStands ts mid id) → (l : ParametersAt ts list (mid + 1) at) →
        Known ts from (at + 1) (typed_breaks ts limits r n (suc d) ++ parameters_breaks ts limits l (suc d))
    known_required {from = from} {mid = mid} {at = at} r n l =
        known_append ts from (mid + 1) (at + 1) (known_typed ts limits d r n) (known_wider ts (mid + 1) at (mid + 1) (at + 1) (omega arith) (omega arith) (known_parameters ts limits d l))

    late_required : {tree : TypeTree} {id : Identifier} {list : List Parameter} {from mid at : ℕ} → (r : TypeAt ts tree from mid) → (n : NameStands ts mid id) → (l : ParametersAt ts list (mid + 1) at) →
        Late from (typed_breaks ts limits r n (suc d) ++ parameters_breaks ts limits l (suc d))
    late_required {from = from} {mid = mid} {at = at} r n l =
        let u = type_moves ts r in
        late_append from (typed_breaks ts limits r n (suc d)) (parameters_breaks ts limits l (suc d)) (late_typed ts limits d r n) (far ts from (mid + 1) at (omega (arith, u)) (known_parameters ts limits d l))

    known_requirement : {x : Requirement} {from to : ℕ} → (s : RequirementAt ts x from to) → Known ts from to (requirement_breaks ts limits s (suc d))
    known_requirement {from = from} {to = to} (t.associated {id = id} s n b z) = known_wider ts (from + 1) to from to (omega arith) (omega arith) (known_bounded id b)
    known_requirement {from = from} {to = to} (t.function {mid = mid} a (t.static s r) n l z) =
        known_append ts from mid to (known_attributes ts limits attributes.members a []) (known_word ts mid to (misfit_breaks ts a target.Other mid) (misfit_rules ts a target.Other mid) (known_required r n l))
    known_requirement {from = from} {to = to} (t.function {mid = mid} {next = next} {at = at} a (t.plain r) n l z) =
        let k = known_required r n l in
        let u = type_moves ts r in
        let w = (known_parameters ts limits d l).goes in
        known_append ts from mid to (known_attributes ts limits attributes.members a []) (known_rules ts mid to (misfit_breaks ts a target.Method mid) (omega (arith, u, w)) (misfit_rules ts a target.Method mid) k)

    late_requirement : {x : Requirement} {from to : ℕ} → (s : RequirementAt ts x from to) → Late from (requirement_breaks ts limits s (suc d))
    late_requirement {from = from} {to = to} (t.associated {id = id} s n b z) = far ts from (from + 1) to (omega arith) (known_bounded id b)
    late_requirement {from = from} {to = to} (t.function {mid = mid} a (t.static {t = tree} s r) n l z) =
        let v = attributes_move ts a in
        let rest = typed_breaks ts limits r n (suc d) ++ parameters_breaks ts limits l (suc d) in
        late_append from (attributes_breaks ts limits attributes.members a []) (misfit_breaks ts a target.Other mid ++ rest) (late_attributes ts limits attributes.members a [])
        (late_append from (misfit_breaks ts a target.Other mid) rest (late_rules from mid (misfit_breaks ts a target.Other mid) (misfit_rules ts a target.Other mid)) (far ts from (mid + 1) to (omega (arith, v)) (known_required r n l)))
    late_requirement {from = from} {to = to} (t.function {mid = mid} a (t.plain r) n l z) =
        let rest = typed_breaks ts limits r n (suc d) ++ parameters_breaks ts limits l (suc d) in
        late_append from (attributes_breaks ts limits attributes.members a []) (misfit_breaks ts a target.Method mid ++ rest) (late_attributes ts limits attributes.members a [])
        (late_append from (misfit_breaks ts a target.Method mid) rest (late_rules from mid (misfit_breaks ts a target.Method mid) (misfit_rules ts a target.Method mid))
        (late_behind_attributes ts a (known_required r n l) (late_required r n l)))

    known_requirements : {xs ys : List Requirement} {from to : ℕ} → (s : RequirementsAt ts xs ys from to) → Known ts from to (requirements_breaks ts limits s (suc d))
    known_requirements {from = from} {to = to} (t.end c) = known_none ts from to (omega arith)
    known_requirements {xs = xs} {from = from} {to = to} (t.more {mid = mid} v l) =
        known_append ts from mid to (known_long ts from mid (nat_lt (length xs) limits.items) (requirement_moves ts v) (known_requirement v) (late_requirement v)) (known_requirements l)

    -- ---- extensions

    -- a name behind so many others
    known_extended_behind : (id : Identifier) (count at : ℕ) → Known ts at (at + 1) (extended_behind ts limits id count at)
    known_extended_behind id count at = known_long ts at (at + 1) (nat_lt count limits.items) (omega arith) (known_named ts limits id at) (late_long ts at at (nat_le (length id.name) limits.names))

    known_more_extended : {xs ys : List Identifier} {p q : Place} {from to : ℕ} → (s : NamesAt ts xs ys p q from to) → Known ts from to (more_extended_breaks ts limits s)
    known_more_extended {from = from} {to = to} (parts.end n) = known_none ts from to (omega arith)
    known_more_extended {xs = xs} {from = from} {to = to} (parts.more {id = id} s n r) =
        known_append ts from (from + 1 + 1) to (known_wider ts (from + 1) (from + 1 + 1) from (from + 1 + 1) (omega arith) (omega arith) (known_extended_behind id (length xs) (from + 1))) (known_more_extended r)

    known_extended : {all : List Identifier} {from to : ℕ} → (s : ExtendedAt ts all from to) → Known ts from to (extended_breaks ts limits s)
    known_extended {from = from} {to = to} (t.no_arguments n) = known_none ts from to (omega arith)
    known_extended {from = from} (t.arguments {at = at} {id = id} o n r c) =
        known_append ts from (from + 1 + 1) (at + 1) (known_wider ts (from + 1) (from + 1 + 1) from (from + 1 + 1) (omega arith) (omega arith) (known_extended_behind id 0 (from + 1)))
        (known_wider ts (from + 1 + 1) at (from + 1 + 1) (at + 1) (omega arith) (omega arith) (known_more_extended r))

    -- ---- items, behind attributes

    module _ (before : Before) (rules : (what : Target) (at : ℕ) → Rules at (before what at)) where
      known_struct : {x : Struct} {from to : ℕ} → (s : StructAt ts x from to) → Known ts from to (struct_breaks ts limits s before (suc d))
      known_struct {from = from} {to = to} (t.struct {mid = mid} {at = at} s h l c) =
          let u = closed_moves ts c in
          known_word ts from to (before target.Other from) (rules target.Other from)
          (known_append ts (from + 1) mid to (known_head ts limits h) (known_wider ts mid at mid to (omega arith) (omega (arith, u)) (known_members ts limits d l)))

      known_interface : {x : Interface} {from to : ℕ} → (s : InterfaceAt ts x from to) → Known ts from to (interface_breaks ts limits s before (suc d))
      known_interface {from = from} {to = to} (t.interface {at = at} {id = id} s n o l c) =
          let u = closed_moves ts c in
          known_word ts from to (before target.Other from) (rules target.Other from)
          (known_append ts (from + 1) (from + 1 + 1) to (known_named ts limits id (from + 1)) (known_wider ts (from + 1 + 1 + 1) at (from + 1 + 1) to (omega arith) (omega (arith, u)) (known_requirements l)))

      known_extension : {x : Extension} {from to : ℕ} → (s : ExtensionAt ts x from to) → Known ts from to (extension_breaks ts limits s before (suc d))
      known_extension {from = from} {to = to} (t.extension {mid = mid} {next = next} {at = at} {last = last} {begin = begin} {id = id} s g n x h c o l z) =
          let u = closed_moves ts z in
          known_word ts from to (before target.Other from) (rules target.Other from)
          (known_append ts (from + 1) mid to (known_generics ts limits g)
          (known_append ts mid (mid + 1) to (known_named ts limits id mid)
          (known_append ts (mid + 1) next to (known_extended x)
          (known_append ts next at to (known_heads ts limits h)
          (known_append ts at begin to (known_constraints ts limits c) (known_wider ts (begin + 1) last begin to (omega arith) (omega (arith, u)) (known_inner_members ts limits d l)))))))

      known_constant : {x : Constant} {from to : ℕ} → (s : ConstantAt ts x from to) → Known ts from to (constant_breaks ts limits s before (suc d))
      known_constant {from = from} (t.constant {mid = mid} {at = at} s q r n i y z) =
          known_word ts from (at + 1) (before target.Other from) (rules target.Other from)
          (known_append ts (from + 1) (mid + 1) (at + 1) (known_wider ts (from + 1 + 1) (mid + 1) (from + 1) (mid + 1) (omega arith) (omega arith) (known_typed ts limits d r n))
          (known_wider ts (mid + 1 + 1) at (mid + 1) (at + 1) (omega arith) (omega arith) (known_expr ts limits y (suc d))))

      known_global : {x : Global} {from to : ℕ} → (s : GlobalAt ts x from to) → Known ts from to (global_breaks ts limits s before (suc d))
      known_global {from = from} (t.global {mid = mid} r n z) =
          known_append ts from (mid + 1) (mid + 1 + 1) (known_typed ts limits d r n) (known_settled ts (mid + 1) (before target.Global (mid + 1)) (rules target.Global (mid + 1)))

      known_item_node : {x : ItemNode} {from to : ℕ} → (s : ItemNodeAt ts x from to) → Known ts from to (item_node_breaks ts limits s before (suc d))
      known_item_node (t.struct r) = known_struct r
      known_item_node (t.interface r) = known_interface r
      known_item_node (t.extension r) = known_extension r
      known_item_node (t.alias r) = known_alias ts limits d before rules r
      known_item_node (t.function r f) = known_function ts limits d before rules r target.Function
      known_item_node (t.constant r) = known_constant r
      known_item_node (t.global r) = known_global r

    known_items : {xs ys : List Item} {from : ℕ} → (s : ItemsAt ts xs ys from) → from ≤ length ts → Known ts from (length ts) (items_breaks ts limits s (suc d))
    known_items {from = from} (t.end q) l = known_none ts from (length ts) l
    known_items {from = from} (t.more {mid = mid} {next = next} {at = at} a v f r s) l =
        let node = known_item_node (misfit_breaks ts a) (misfit_rules ts a) r in
        known_append ts from at (length ts)
        (known_append ts from mid at (known_attributes ts limits attributes.items a []) (known_wider ts next at mid at (access_moves ts v) (omega arith) node))
        (known_items s (item_node_within r))

    -- ---- files

    known_line : {word : Word} {x : ModuleLine} {from to : ℕ} → (s : LineAt ts word x from to) → Known ts from to (line_breaks ts limits s)
    known_line {from = from} {to = to} (t.line {id = id} s n z) = known_wider ts (from + 1) (from + 1 + 1) from to (omega arith) (omega arith) (known_named ts limits id (from + 1))

    known_module : {x : Option ModuleLine} {from to : ℕ} → (s : ModuleAt ts x from to) → Known ts from to (module_breaks ts limits s)
    known_module {from = from} {to = to} (t.no_module n) = known_none ts from to (omega arith)
    known_module (t.module_line r) = known_line r

    known_imports : {xs ys : List ModuleLine} {from to : ℕ} → (s : ImportsAt ts xs ys from to) → Known ts from to (imports_breaks ts limits s)
    known_imports {from = from} {to = to} (t.end n) = known_none ts from to (omega arith)
    known_imports {from = from} {to = to} (t.more {mid = mid} v r) = known_append ts from mid to (known_line v) (known_imports r)

    pub known_file : {x : File} → (s : FileAt ts x) → Known ts 0 (length ts) (file_breaks ts limits s (suc d))
    known_file (t.file {mid = mid} {at = at} h i l) =
        known_append ts 0 mid (length ts) (known_module h) (known_append ts mid at (length ts) (known_imports i) (known_items l (imports_within i (module_within h))))
