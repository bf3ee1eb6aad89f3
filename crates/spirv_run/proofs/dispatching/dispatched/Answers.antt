use Rattle.std.proofs.Common.{◌≡◌, ap, subst, ◌∙◌}
use Rattle.std.specs.Prelude.{IfSome, Option}
use Rattle.run_plans.specs.declared.base.Bound.{Bound}
use Rattle.spirv_words.specs.declared.images.Image.{Image}
use Rattle.spirv_run.specs.Dispatch.{FirstMissing, HasAll, IsRun}
use Rattle.spirv_run.specs.Machines.{Machine}
use Rattle.spirv_run.proofs.Answering.{counted, lacks, runs}
use Rattle.spirv_run.proofs.dispatching.dispatched.Goals as goal

pub returns-in-Some-clause-is : goal.returns-in-Some-clause-is
returns-in-Some-clause-is c =
    let image = c.args.runner.now.image in
    let named = c.is.ensures.0 c.if-not-is.false ∙ (c.as_bytes.ensures ∙ c.entry_name.ensures) in
    let count = counted c.group_size-size.result c.args.groups c.invocation_count.result c.in-Ok.count c.invocation_count.ensures.few c.invocation_count.ensures.many c.in-Ok.is in
    lacks image c.args.entry.now c.group_size-size.result c.args.groups c.args.steps c.in-Ok.count c.args.buffers.now named c.group_size-size.ensures.size count
    c.in-Some.bound.set c.in-Some.bound.binding
    (subst (λ (o : Option Bound). IfSome o (λ b. FirstMissing image.instructions c.args.buffers.now b.set b.binding)) c.in-Some.is c.look_up.ensures.lacking)

pub returns-in-None-clause-is : goal.returns-in-None-clause-is
returns-in-None-clause-is c =
    let image = c.args.runner.now.image in
    let named = c.is.ensures.0 c.if-not-is.false ∙ (c.as_bytes.ensures ∙ c.entry_name.ensures) in
    let count = counted c.group_size-size.result c.args.groups c.invocation_count.result c.in-Ok.count c.invocation_count.ensures.few c.invocation_count.ensures.many c.in-Ok.is in
    let same : c.look_up.new.self.image ≡ image = ap (λ (m : Machine). m.image) c.look_up.ensures.kept in
    let ready = c.look_up.ensures.all c.in-None.is in
    let P : Image → Type 0 = λ i. IsRun i c.group_size-size.result c.args.groups c.args.steps c.in-Ok.count c.args.buffers.now c.run_all.result c.run_all.new.buffers in
    runs image c.args.entry.now c.group_size-size.result c.args.groups c.args.steps c.in-Ok.count c.args.buffers.now named c.group_size-size.ensures.size count
    c.run_all.result c.run_all.new.buffers (subst (λ (i : Image). HasAll i.instructions c.args.buffers.now) same ready.all) (subst P same c.run_all.ensures.runs)
