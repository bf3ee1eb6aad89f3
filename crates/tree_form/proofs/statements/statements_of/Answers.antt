use Rattle.std.proofs.Common.{◌≡◌, Some, None, arith}
use Rattle.tree_form.specs.Forms.{statement_of}
use Rattle.tree_form.proofs.Loops.{goes_on, is_none, is_done}
use Rattle.tree_form.proofs.statements.statements_of.Goals as goal

pub returns-in_default : goal.returns-in_default
returns-in_default c =
    let made = c.in_ok-statement.ensures in
    let nothing = c.in_default.is in
    let d : None ≡ statement_of c.args.buffer.now c.args.parameter.now c.tree-item.result = cc in
    is_none c.args.buffer.now c.args.parameter.now c.args.trees.now c.loop-tree.tree-index c.loop-tree.statements c.loop-tree.invariant c.tree-item.result (omega arith) c.tree-item.is d

pub loop-tree-preserved : goal.loop-tree-preserved
loop-tree-preserved c =
    let made = c.in_ok-statement.ensures in
    let some = c.in-Some.is in
    let d : Some c.in-Some.statement ≡ statement_of c.args.buffer.now c.args.parameter.now c.tree-item.result = cc in
    rw c.in_ok-push.ensures.ok (goes_on c.args.buffer.now c.args.parameter.now c.args.trees.now c.loop-tree.tree-index c.loop-tree.statements c.loop-tree.invariant c.tree-item.result c.in-Some.statement (omega arith) c.tree-item.is d)

pub returns : goal.returns
returns c = is_done c.args.buffer.now c.args.parameter.now c.args.trees.now c.loop-tree.tree-index c.loop-tree.statements c.loop-tree.invariant (omega arith)
