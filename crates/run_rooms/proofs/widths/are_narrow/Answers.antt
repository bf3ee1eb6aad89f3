use Rattle.std.proofs.Common.{refl}
use Rattle.image_facts.specs.Operands.{globals_of}
use Rattle.run_rooms.proofs.Narrow.{all-narrow, none-more}
use Rattle.run_rooms.proofs.widths.are_narrow.Goals as goal

pub loop-instruction-preserved : goal.loop-instruction-preserved
loop-instruction-preserved c =
    let code = c.args.code.now in
    none-more code code c.loop-instruction.instruction-index c.instruction-item.result refl c.loop-instruction-test.true c.instruction-item.is
    (c.is_wide.ensures.narrow (globals_of code) c.requires c.if-is_wide.false) c.loop-instruction.invariant

pub returns-clause-narrow : goal.returns-clause-narrow
returns-clause-narrow c = λ e. all-narrow c.args.code.now c.loop-instruction.instruction-index c.loop-instruction-test.false c.loop-instruction.invariant
