use Rattle.std.proofs.Common.{ap}
use Rattle.std.specs.Option.{option_copied}
use Rattle.module_scope.proofs.Inner.{is_here, is_further_out}
use Rattle.module_scope.proofs.names.local_named.Goals as goal

pub returns-in-Some-local_in : goal.returns-in-Some-local_in
returns-in-Some-local_in c = is_here c.args.name.now c.args.blocks.now c.in-Some.before.now c.in-Some.block.now c.loop-block.left.now c.in-Some.ensures.cases.0 c.loop-block.invariant
    (option_copied c.local_in.result) c.local_in.ensures c.in-Some-local_in.local.now (ap option_copied c.in-Some-local_in.is)

pub loop-block-preserved : goal.loop-block-preserved
loop-block-preserved c = is_further_out c.args.name.now c.args.blocks.now c.in-Some.before.now c.in-Some.block.now c.loop-block.left.now c.in-Some.ensures.cases.0 c.loop-block.invariant
    (option_copied c.local_in.result) c.local_in.ensures (ap option_copied c.in-None.is)
