use Rattle.std.proofs.Common.{◌≡◌, ℕ, List, sym, subst, arith, length}
use Rattle.std.specs.Prelude.{IfSome}
use Rattle.std.specs.Vec.{with_items}
use Rattle.std.proofs.lemmas.List.{with_items_is}
use Rattle.run_plans.specs.declared.base.Bound.{Bound}
use Rattle.spirv_run.specs.Dispatch.{FirstMissing}
use Rattle.spirv_run.specs.Machines.{Machine}
use Rattle.spirv_run.specs.Parts.{AreBound, IsFirstShort}
use Rattle.spirv_run.proofs.Running.{none_test, ready_from, missing_from}
use Rattle.spirv_run.proofs.runner.Runner.look_up.Goals as goal

pub returns-clause-all : goal.returns-clause-all
returns-clause-all c = λ none.
    let i = c.self.inside in
    let n : length c.bind-lacking.new.counts ≡ i.counts.len = let d = c.deref_mut-2.ensures.len in omega (arith, c.bind-lacking.auto.counts) in
    let same = with_items_is i.counts c.bind-lacking.new.counts n in
    let bound : AreBound i.plan.buffers c.args.buffers.now c.bind-lacking.new.counts =
    subst (λ (l : List Bound). AreBound l c.args.buffers.now c.bind-lacking.new.counts) c.as_slice.ensures (c.bind-lacking.ensures.all none) in
    ready_from i.image c.self.invariant.rooms i.plan i.place i.words.items (with_items i.positions c.bind-lacking.new.positions).items (with_items i.counts c.bind-lacking.new.counts).items
    c.is_none-self-inside.result c.args.buffers.now c.self.invariant.is_plan
    (none_test c.bind-lacking.result c.is_none-self-inside.result c.is_none-self-inside.ensures none)
    (subst (λ (l : List ℕ). AreBound i.plan.buffers c.args.buffers.now l) (sym same) bound)

pub returns-clause-lacking : goal.returns-clause-lacking
returns-clause-lacking c =
    let i = c.self.inside in
    let Goal : Machine → Type 0 = λ k. IfSome c.bind-lacking.result (λ b. FirstMissing k.image.instructions c.args.buffers.now b.set b.binding) in
    let P : List Bound → Type 0 = λ l. IfSome c.bind-lacking.result (IsFirstShort l c.args.buffers.now) in
    subst Goal c.self.view_is (missing_from i.image.instructions c.self.invariant.rooms i.plan c.args.buffers.now c.bind-lacking.result c.self.invariant.is_plan
    (subst P c.as_slice.ensures c.bind-lacking.ensures.lacking))
