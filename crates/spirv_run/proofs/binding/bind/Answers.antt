use Rattle.std.proofs.Common.{get_or, refl, arith}
use Rattle.run_plans.specs.declared.base.Bound.{Bound}
use Rattle.spirv_run.proofs.Bindings.{bound_one_more, all_bound, stands_at, first_short}
use Rattle.spirv_run.proofs.binding.bind.Goals as goal

abbrev none : Bound
none = record { set = 0; binding = 0; words = 0 }

pub returns-in-None-clause-lacking : goal.returns-in-None-clause-lacking
returns-in-None-clause-lacking c =
    let bounds = c.args.bounds.now in
    first_short c.loop-n.n bounds c.args.buffers.now c.loop-n.counts (get_or bounds c.loop-n.n none) c.loop-n.invariant
    (stands_at bounds c.loop-n.n none c.loop-n-test.true) (c.in-None.ensures.short refl)

pub loop-n-preserved : goal.loop-n-preserved
loop-n-preserved c =
    let bounds = c.args.bounds.now in
    bound_one_more c.loop-n.n bounds c.args.buffers.now c.loop-n.counts (get_or bounds c.loop-n.n none) c.in-Some.count c.loop-n.invariant
    (omega arith) (stands_at bounds c.loop-n.n none c.loop-n-test.true) c.in-Some.ensures.found.0 c.in-Some.ensures.found.1 c.in-Some.ensures.found.2

pub returns-clause-all : goal.returns-clause-all
returns-clause-all c = λ is. all_bound c.loop-n.n c.args.bounds.now c.args.buffers.now c.loop-n.counts c.loop-n-test.false c.loop-n.invariant
