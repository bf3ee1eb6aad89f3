use Rattle.std.proofs.Common.{◌++◌, map}
use Rattle.form_grammar.specs.Trees.{spelling, chain}
use Rattle.form_grammar.proofs.Chains.{Writes}
use Rattle.slang_core.specs.BodyTrees.{body_tree}
use Rattle.form_bodies.proofs.bodies.put_body_items.Given as goal

abbrev pub invariant-loop-item : goal.invariant-loop-item
invariant-loop-item l = Writes body_tree l.out.items l.items l.item-index (l.fn.out.items ++ spelling (chain (map body_tree l.items)))
