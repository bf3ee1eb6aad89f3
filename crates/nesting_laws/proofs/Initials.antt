-- What the fold over what locals begin with is at each of its nodes.
use Rattle.std.proofs.Common.{◌≡◌, List, map, rules}
use Rattle.slang_names.specs.declared.places.Place.{Place}
use Rattle.slang_tree.specs.declared.expressions.ExprTree.{ExprTree}
use Rattle.slang_tree.specs.declared.statements.Initializer.{Initializer}
use Rattle.slang_tree.specs.declared.statements.Initializer.TheVariants as i
use Rattle.slang_tree.specs.declared.statements.ListTree.{ListTree, the_lemmas}
use Rattle.slang_tree.specs.Nesting.{first_of, node, deep_expr, deep_initializer, deep_list}
use Rattle.statement_grammar.specs.Statements.{listed}

pub deep_expression : (x : ExprTree) → deep_initializer (i.Expression x) ≡ deep_expr x
deep_expression x = search (rules, the_lemmas)

pub deep_braces : (x : ListTree) → deep_initializer (i.List x) ≡ deep_list x
deep_braces x = search (rules, the_lemmas)

pub deep_listed : (p : Place) (list : List Initializer) → deep_list (listed p list) ≡ node p (first_of (map deep_initializer list))
deep_listed p list = search (rules, the_lemmas)
