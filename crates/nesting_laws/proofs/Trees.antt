-- What the fold over the trees of statements is at each of their nodes.
use Rattle.std.proofs.Common.{◌≡◌, List, map, Option, rules}
use Rattle.slang_names.specs.declared.places.Place.{Place}
use Rattle.slang_tree.specs.declared.expressions.ExprTree.{ExprTree}
use Rattle.slang_tree.specs.declared.statements.Attribute.{Attribute}
use Rattle.slang_tree.specs.declared.statements.Local.{Local}
use Rattle.slang_tree.specs.declared.statements.Change.{Change}
use Rattle.slang_tree.specs.declared.statements.LoopStart.{LoopStart}
use Rattle.slang_tree.specs.declared.statements.StatTree.{StatTree, the_lemmas}
use Rattle.slang_tree.specs.declared.statements.StatNode.TheVariants as s
use Rattle.slang_tree.specs.Nesting.{nothing, before, first_of, node, optional, deep_expr, deep_local, deep_change, deep_start, deep_stat}
use Rattle.statement_grammar.specs.Statements.{stated}

pub deep_inner_block : (p : Place) (list : List StatTree) → deep_stat (stated p (s.Block list)) ≡ node p (first_of (map deep_stat list))
deep_inner_block p list = search (rules, the_lemmas)

pub deep_local_stat : (p : Place) (x : Local) → deep_stat (stated p (s.Local x)) ≡ node p (deep_local x)
deep_local_stat p x = search (rules, the_lemmas)

pub deep_change_stat : (p : Place) (x : Change) → deep_stat (stated p (s.Change x)) ≡ node p (deep_change x)
deep_change_stat p x = search (rules, the_lemmas)

pub deep_empty : (p : Place) → deep_stat (stated p s.Empty) ≡ node p nothing
deep_empty p = search (rules, the_lemmas)

pub deep_if : (p : Place) (x : ExprTree) (y : StatTree) → deep_stat (stated p (s.If x y)) ≡ node p (before (deep_expr x) (deep_stat y))
deep_if p x y = search (rules, the_lemmas)

pub deep_if_else : (p : Place) (x : ExprTree) (y z : StatTree) → deep_stat (stated p (s.IfElse x y z)) ≡ node p (before (deep_expr x) (before (deep_stat y) (deep_stat z)))
deep_if_else p x y z = search (rules, the_lemmas)

pub deep_for : (p : Place) (a : List Attribute) (x : LoopStart) (y : Option ExprTree) (z : Option Change) (b : StatTree) →
    deep_stat (stated p (s.For a x y z b)) ≡ node p (before (deep_start x) (before (optional deep_expr y) (before (optional deep_change z) (deep_stat b))))
deep_for p a x y z b = search (rules, the_lemmas)

pub deep_while : (p : Place) (a : List Attribute) (x : ExprTree) (b : StatTree) → deep_stat (stated p (s.While a x b)) ≡ node p (before (deep_expr x) (deep_stat b))
deep_while p a x b = search (rules, the_lemmas)

pub deep_return : (p : Place) (x : Option ExprTree) → deep_stat (stated p (s.Return x)) ≡ node p (optional deep_expr x)
deep_return p x = search (rules, the_lemmas)

pub deep_break : (p : Place) → deep_stat (stated p s.Break) ≡ node p nothing
deep_break p = search (rules, the_lemmas)

pub deep_continue : (p : Place) → deep_stat (stated p s.Continue) ≡ node p nothing
deep_continue p = search (rules, the_lemmas)
