use Rattle.std.proofs.Common.{arith}
use Rattle.first_image.proofs.BodyCode.{statements_turn}
use Rattle.first_image.proofs.body.emit_statements.Goals as goal

pub loop-statement-preserved : goal.loop-statement-preserved
loop-statement-preserved c = record {
  out = statements_turn c.args.ids.now.numbers.items c.args.statements.now c.loop-statement.statement-index c.statement-item.result c.statement-item.result c.args.out.now c.loop-statement.out
      c.emit_statement.new.out c.loop-statement-test.true c.statement-item.is c.loop-statement.invariant.out c.in_ok-emit_statement.ensures.code;
  few = omega (arith, c.loop-statement.invariant.few, c.in_ok-emit_statement.ensures.few);
}
