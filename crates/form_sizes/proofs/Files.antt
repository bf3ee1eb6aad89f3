-- The statements of a function of a file take no more bytes than its text has.
use Rattle.std.proofs.Common.{Bool, ℕ, ◌+◌, ◌≤◌, List, [], ◌∷◌, Option, arith}
use Rattle.std.specs.List.{sum_by}
use Rattle.std.proofs.lemmas.List.Sums.{sum_by-cons, sum_by-append}
use Rattle.slang_names.specs.declared.places.Place.{Place}
use Rattle.slang_tree.specs.declared.types.TypeTree.{TypeTree}
use Rattle.slang_tree.specs.declared.declarations.Function.{Function}
use Rattle.slang_tree.specs.declared.declarations.Constraint.{Constraint}
use Rattle.slang_tree.specs.declared.declarations.Parameter.{Parameter}
use Rattle.slang_tree.specs.declared.declarations.GenericParameter.{GenericParameter}
use Rattle.slang_tree.specs.declared.file.ModuleLine.{ModuleLine}
use Rattle.slang_tree.specs.declared.file.Item.{Item}
use Rattle.slang_tree.specs.declared.file.ItemNode.{ItemNode}
use Rattle.slang_tree.specs.declared.file.ItemNode.TheVariants as d
use Rattle.slang_tree.specs.declared.file.File.{File}
use Rattle.slang_reading.specs.Lexed.{Lexed}
use Rattle.statement_fits.proofs.Moves.{type_moves, attributes_move}
use Rattle.declaration_grammar.specs.Parts as parts
use Rattle.declaration_grammar.specs.Parts.{ConstraintsAt, MoreGenericsAt, GenericsAt, MoreParametersAt, ParametersAt}
use Rattle.declaration_grammar.specs.Declarations as t
use Rattle.declaration_grammar.specs.Declarations.{ResultAt, FunctionAt, ItemNodeAt, ItemsAt, ModuleAt, ImportsAt, FileAt}
use Rattle.declaration_fits.proofs.Moves.{access_moves, generic_moves, constraint_moves, parameter_moves, item_node_moves, line_moves}
use Rattle.form_sizes.proofs.Tokens.{behind, behind_less, Sized}
use Rattle.form_sizes.proofs.Statements.{stat_weight, block_bytes}

-- ---- what is counted: the statements of functions

abbrev pub function_weight : Function → ℕ
function_weight f = sum_by stat_weight f.body.statements

abbrev pub item_node_weight : ItemNode → ℕ
item_node_weight (d.Function f) = function_weight f
item_node_weight _ = 0

abbrev pub item_weight : Item → ℕ
item_weight x = item_node_weight x.node

module _ (ts : List Lexed) where
  -- ---- what is spelled ends no earlier than it begins

  more_generics_move : {xs ys : List GenericParameter} {from to : ℕ} → MoreGenericsAt ts xs ys from to → from ≤ to
  more_generics_move parts.end = omega arith
  more_generics_move (parts.more s v r) = let a = generic_moves ts v in let b = more_generics_move r in omega (arith, a, b)

  generics_move : {all : List GenericParameter} {from to : ℕ} → GenericsAt ts all from to → from ≤ to
  generics_move (parts.no_generics n) = omega arith
  generics_move (parts.generics o v r c) = let a = generic_moves ts v in let b = more_generics_move r in omega (arith, a, b)

  constraints_move : {xs ys : List Constraint} {from to : ℕ} → ConstraintsAt ts xs ys from to → from ≤ to
  constraints_move (parts.end n) = omega arith
  constraints_move (parts.more v r) = let a = constraint_moves ts v in let b = constraints_move r in omega (arith, a, b)

  more_parameters_move : {xs ys : List Parameter} {from to : ℕ} → MoreParametersAt ts xs ys from to → from ≤ to
  more_parameters_move parts.end = omega arith
  more_parameters_move (parts.more s v r) = let a = parameter_moves ts v in let b = more_parameters_move r in omega (arith, a, b)

  parameters_move : {all : List Parameter} {from to : ℕ} → ParametersAt ts all from to → from ≤ to
  parameters_move (parts.no_parameters o c) = omega arith
  parameters_move (parts.parameters o v r c) = let a = parameter_moves ts v in let b = more_parameters_move r in omega (arith, a, b)

  result_moves : {is_static : Bool} {x : TypeTree} {p : Place} {from to : ℕ} → ResultAt ts is_static x p from to → from ≤ to
  result_moves (t.plain r) = type_moves ts r
  result_moves (t.static s r) = let a = type_moves ts r in omega (arith, a)

  module_moves : {x : Option ModuleLine} {from to : ℕ} → ModuleAt ts x from to → from ≤ to
  module_moves (t.no_module n) = omega arith
  module_moves (t.module_line r) = let a = line_moves ts r in omega (arith, a)

  imports_move : {xs ys : List ModuleLine} {from to : ℕ} → ImportsAt ts xs ys from to → from ≤ to
  imports_move (t.end n) = omega arith
  imports_move (t.more v r) = let a = line_moves ts v in let b = imports_move r in omega (arith, a, b)

  -- ---- functions, items, files

  module _ (sized : Sized ts) where
    function_bytes : {x : Function} {from to : ℕ} → FunctionAt ts x from to → function_weight x + behind ts to ≤ behind ts from
    function_bytes (t.function {from = from} {next = next} r n g l c b) =
        let a1 = result_moves r in let a2 = generics_move g in let a3 = parameters_move l in let a4 = constraints_move c in
        let a5 = behind_less ts from next (omega (arith, a1, a2, a3, a4)) in let a6 = block_bytes ts sized b in omega (arith, a5, a6)

    -- an item of which nothing is counted
    other_bytes : {x : ItemNode} {from to : ℕ} → ItemNodeAt ts x from to → 0 + behind ts to ≤ behind ts from
    other_bytes {from = from} {to = to} r = let h = item_node_moves ts r in let a = behind_less ts from to (omega (arith, h)) in omega (arith, a)

    item_node_bytes : {x : ItemNode} {from to : ℕ} → ItemNodeAt ts x from to → item_node_weight x + behind ts to ≤ behind ts from
    item_node_bytes (t.function r f) = function_bytes r
    item_node_bytes (t.struct r) = other_bytes (t.struct r)
    item_node_bytes (t.interface r) = other_bytes (t.interface r)
    item_node_bytes (t.extension r) = other_bytes (t.extension r)
    item_node_bytes (t.alias r) = other_bytes (t.alias r)
    item_node_bytes (t.constant r) = other_bytes (t.constant r)
    item_node_bytes (t.global r) = other_bytes (t.global r)

    items_bytes : {xs zs : List Item} {from : ℕ} → ItemsAt ts xs zs from → sum_by item_weight zs ≤ sum_by item_weight xs + behind ts from
    items_bytes (t.end n) = omega arith
    items_bytes (t.more {from = from} {next = next} {attributes = attributes} {access = access} {x = x} {list = list} a v p r l) =
        let h1 = attributes_move ts a in let h2 = access_moves ts v in let h3 = behind_less ts from next (omega (arith, h1, h2)) in
        let h4 = item_node_bytes r in let h5 = items_bytes l in
        let g = sum_by-append item_weight list (t.item_of attributes access x ∷ []) in let f = sum_by-cons item_weight (t.item_of attributes access x) [] in
        omega (arith, h3, h4, h5, g, f)

    pub file_bytes : {x : File} → FileAt ts x → sum_by item_weight x.items ≤ behind ts 0
    file_bytes (t.file {at = at} m i l) =
        let a = module_moves m in let b = imports_move i in let c = behind_less ts 0 at (omega (arith, a, b)) in let d = items_bytes l in omega (arith, c, d)
