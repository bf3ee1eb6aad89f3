-- The limits that declared names, lists in braces, locals and changes break, in the order of the tokens, where at most
-- d nodes may still stand on a path.
use Rattle.std.specs.Prelude.{ℕ, ◌+◌, List, [], ◌++◌, length}
use Rattle.slang_tree.specs.declared.types.Term.{Term}
use Rattle.slang_tree.specs.declared.statements.DeclaredName.{DeclaredName}
use Rattle.slang_tree.specs.declared.statements.Initializer.{Initializer}
use Rattle.slang_tree.specs.declared.statements.ListTree.{ListTree}
use Rattle.slang_tree.specs.declared.statements.LocalName.{LocalName}
use Rattle.slang_tree.specs.declared.statements.Local.{Local}
use Rattle.slang_tree.specs.declared.statements.Change.{Change}
use Rattle.slang_reading.specs.Lexed.{Lexed}
use Rattle.slang_grammar.specs.Descent.{Limits}
use Rattle.statement_grammar.specs.Statements as t
use Rattle.statement_grammar.specs.Statements.{LengthsAt, DeclaredNameAt, InitializerAt, ListAt, MoreItemsAt, LocalNameAt, MoreLocalNamesAt, LocalAt, ChangeAt}
use Rattle.expression_limits.specs.Breaks.{Break, inside, arises, item_with, name_there}
use Rattle.expression_limits.specs.Types.{term_breaks, type_breaks}
use Rattle.expression_limits.specs.Expressions.{expr_breaks, postfix_breaks}

module _ (ts : List Lexed) (limits : Limits) where
  -- ---- declared names

  abbrev pub lengths_breaks : {xs ys : List Term} {p q : _} {from to : ℕ} → LengthsAt ts xs ys p q from to → List Break
  lengths_breaks (t.end n) = []
  lengths_breaks (t.more s x c r) = term_breaks ts limits x ++ lengths_breaks r

  abbrev pub declared_breaks : {x : DeclaredName} {end : _} {from to : ℕ} → DeclaredNameAt ts x end from to → List Break
  declared_breaks {from = from} (t.declared_name {id = id} s r) = name_there ts limits id from ++ lengths_breaks r

  -- ---- what locals begin with

  abbrev mutual
    pub initial_breaks : {x : Initializer} {end : _} {from to : ℕ} → InitializerAt ts x end from to → ℕ → List Break
    initial_breaks (t.expression v) d = expr_breaks ts limits v d
    initial_breaks (t.braces l) d = list_breaks l d

    -- a list in braces arises at its brace
    pub list_breaks : {x : ListTree} {from to : ℕ} → ListAt ts x from to → ℕ → List Break
    list_breaks {from = from} (t.no_items s c) d = arises ts from d
    list_breaks {from = from} (t.items s v r c) d =
        arises ts from d ++ (item_with ts limits 0 (from + 1) (inside d) (initial_breaks v (inside d)) ++ more_items_breaks r (inside d))

    -- items behind others
    pub more_items_breaks : {xs ys : List Initializer} {from to : ℕ} → MoreItemsAt ts xs ys from to → ℕ → List Break
    more_items_breaks t.end d = []
    more_items_breaks {xs = xs} {from = from} (t.more s v r) d =
        item_with ts limits (length xs) (from + 1) d (initial_breaks v d) ++ more_items_breaks r d

  -- ---- locals, which are no nodes

  abbrev pub local_name_breaks : {x : LocalName} {end : _} {from to : ℕ} → LocalNameAt ts x end from to → ℕ → List Break
  local_name_breaks (t.alone r n) d = declared_breaks r
  local_name_breaks (t.begun r s v) d = declared_breaks r ++ initial_breaks v d

  abbrev pub more_names_breaks : {xs ys : List LocalName} {p q : _} {from to : ℕ} → MoreLocalNamesAt ts xs ys p q from to → ℕ → List Break
  more_names_breaks (t.end n) d = []
  more_names_breaks (t.more s v r) d = local_name_breaks v d ++ more_names_breaks r d

  abbrev pub local_breaks : {x : Local} {from to : ℕ} → LocalAt ts x from to → ℕ → List Break
  local_breaks (t.variable r v n) d = type_breaks ts limits r d ++ (local_name_breaks v d ++ more_names_breaks n d)
  local_breaks (t.constant s r v n) d = type_breaks ts limits r d ++ (local_name_breaks v d ++ more_names_breaks n d)

  -- ---- changes, which are no nodes

  abbrev pub change_breaks : {x : Change} {from to : ℕ} → ChangeAt ts x from to → ℕ → List Break
  change_breaks (t.assignment r s v) d = postfix_breaks ts limits r d ++ expr_breaks ts limits v d
  change_breaks (t.step_before s q r) d = postfix_breaks ts limits r d
  change_breaks (t.step_behind r s q) d = postfix_breaks ts limits r d
  change_breaks (t.call r q) d = postfix_breaks ts limits r d
