use Rattle.std.proofs.Common.{◌++◌, map}
use Rattle.form_grammar.specs.Trees.{nested, spelling, chain}
use Rattle.form_grammar.proofs.Chains.{Writes}
use Rattle.slang_core.specs.BodyTrees.{stat_tree}
use Rattle.form_bodies.proofs.writing.+put_stat.Given as goal

abbrev pub invariant-put_stat_items-loop-item : goal.invariant-put_stat_items-loop-item
invariant-put_stat_items-loop-item l = Writes (λ s. nested (stat_tree s)) l.out.items l.items l.item-index (l.fn.out.items ++ spelling (chain (map (λ s. nested (stat_tree s)) l.items)))
