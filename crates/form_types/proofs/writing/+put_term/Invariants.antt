use Rattle.std.proofs.Common.{◌++◌, map}
use Rattle.form_grammar.specs.Trees.{spelling, chain}
use Rattle.form_grammar.proofs.Chains.{Writes}
use Rattle.slang_core.specs.TypeTrees.{arg_tree}
use Rattle.form_types.proofs.writing.+put_term.Given as goal

abbrev pub invariant-put_arg_items-loop-arg : goal.invariant-put_arg_items-loop-arg
invariant-put_arg_items-loop-arg l = Writes arg_tree l.out.items l.args l.arg-index (l.fn.out.items ++ spelling (chain (map arg_tree l.args)))
