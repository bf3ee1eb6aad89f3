use Rattle.std.proofs.Common.{◌≡◌, drop}
use Rattle.tree_form.specs.Forms.{statements_of}
use Rattle.tree_form.proofs.Loops.{with_front}
use Rattle.tree_form.proofs.statements.statements_of.Given as goal

abbrev pub invariant-loop-tree : goal.invariant-loop-tree
invariant-loop-tree l = with_front l.statements (statements_of l.buffer l.parameter (drop l.tree-index l.trees)) ≡ statements_of l.buffer l.parameter l.trees
