use Rattle.std.proofs.Common.{◌++◌, map}
use Rattle.form_grammar.specs.Trees.{spelling, chain}
use Rattle.form_grammar.proofs.Chains.{Writes}
use Rattle.form_decls.proofs.items.put_items.Given as goal

abbrev pub invariant-loop-item : goal.invariant-loop-item
invariant-loop-item g l = Writes g.T.Stored.tree l.out.items l.items l.item-index (l.fn.out.items ++ spelling (chain (map g.T.Stored.tree l.items)))
