use Rattle.first_image.proofs.BodyCode.{statement_done}
use Rattle.first_image.proofs.body.emit_statement.Goals as goal

pub returns-clause-code : goal.returns-clause-code
returns-clause-code c =
    statement_done c.args.ids.now.numbers.items c.args.statement.now c.args.out.now c.emit_sum.new.out c.emit_sum-2.new.out c.fresh-cell.new.out c.push.new.instructions c.push-2.new.instructions
    c.in_ok-index.index c.in_ok-value.value c.constant-member.result c.fresh-cell.result c.cell_pointer.result c.buffer.result
    c.in_ok-index.ensures.value c.in_ok-index.ensures.code c.in_ok-value.ensures.value c.in_ok-value.ensures.code
    c.constant-member.ensures c.fresh-cell.ensures.id c.fresh-cell.ensures.out c.cell_pointer.ensures c.buffer.ensures
    c.in_ok-push.ensures c.in_ok-push-2.ensures
