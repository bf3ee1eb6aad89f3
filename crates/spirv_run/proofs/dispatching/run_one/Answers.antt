use Rattle.std.proofs.Common.{◌≡◌, ℕ, suc, ◌+◌, subst, arith}
use Rattle.behavior.specs.Meanings.{Done, Out, Undefined as WasUndefined}
use Rattle.spirv_run.specs.declared.turns.Turn.{Turn}
use Rattle.spirv_run.specs.Shared.{Within, EndsAt}
use Rattle.spirv_run.specs.Going.{IsUnderWay}
use Rattle.spirv_run.proofs.UnderWay.{OfTurn, under_way, out_of_steps}
use Rattle.spirv_run.proofs.Finishing.{one_step}
use Rattle.spirv_run.proofs.dispatching.run_one.Goals as goal

pub loop-step-init : goal.loop-step-init
loop-step-init c =
    (omega arith, under_way c.args.runner.now c.restart.new.self c.args.ids.now c.args.buffers.now c.restart.ensures.kept c.requires (c.restart.ensures.ready c.args.buffers.now c.requires))

pub loop-step-preserved : goal.loop-step-preserved
loop-step-preserved c =
    let i = c.args.runner.now.image in
    let ids = c.args.ids.now in
    let g = c.go_on.ensures in
    let r = one_step i ids c.args.buffers.now c.loop-step.step c.loop-step.runner c.go_on.new.self c.loop-step.buffers c.go_on.new.buffers c.go_on.result c.loop-step.invariant.1
    g.kept g.moves g.words g.counts g.as_many in
    let u = subst (λ (t : Turn). OfTurn i ids c.args.buffers.now c.loop-step.step t c.go_on.new.self c.go_on.new.buffers) c.in-Going.is r in
    (omega arith, subst (λ (k : ℕ). IsUnderWay i ids c.args.buffers.now k c.go_on.new.self c.go_on.new.buffers) (let e : suc c.loop-step.step ≡ c.loop-step.step + 1 = omega arith in e) u)

pub returns-in-Ended-clause-ready : goal.returns-in-Ended-clause-ready
returns-in-Ended-clause-ready c =
    let i = c.args.runner.now.image in
    let ids = c.args.ids.now in
    let g = c.go_on.ensures in
    let r = one_step i ids c.args.buffers.now c.loop-step.step c.loop-step.runner c.go_on.new.self c.loop-step.buffers c.go_on.new.buffers c.go_on.result c.loop-step.invariant.1
    g.kept g.moves g.words g.counts g.as_many in
    let u = subst (λ (t : Turn). OfTurn i ids c.args.buffers.now c.loop-step.step t c.go_on.new.self c.go_on.new.buffers) c.in-Ended.is r in
    u.1

pub returns-in-Ended-clause-finished : goal.returns-in-Ended-clause-finished
returns-in-Ended-clause-finished c =
    let i = c.args.runner.now.image in
    let ids = c.args.ids.now in
    let g = c.go_on.ensures in
    let r = one_step i ids c.args.buffers.now c.loop-step.step c.loop-step.runner c.go_on.new.self c.loop-step.buffers c.go_on.new.buffers c.go_on.result c.loop-step.invariant.1
    g.kept g.moves g.words g.counts g.as_many in
    let u = subst (λ (t : Turn). OfTurn i ids c.args.buffers.now c.loop-step.step t c.go_on.new.self c.go_on.new.buffers) c.in-Ended.is r in
    (omega arith, subst (λ (k : ℕ). EndsAt i ids c.args.buffers.now k c.go_on.new.buffers Done) (let e : suc c.loop-step.step ≡ c.loop-step.step + 1 = omega arith in e) u.2)

pub returns-in-Undefined-clause-ready : goal.returns-in-Undefined-clause-ready
returns-in-Undefined-clause-ready c =
    let i = c.args.runner.now.image in
    let ids = c.args.ids.now in
    let g = c.go_on.ensures in
    let r = one_step i ids c.args.buffers.now c.loop-step.step c.loop-step.runner c.go_on.new.self c.loop-step.buffers c.go_on.new.buffers c.go_on.result c.loop-step.invariant.1
    g.kept g.moves g.words g.counts g.as_many in
    let u = subst (λ (t : Turn). OfTurn i ids c.args.buffers.now c.loop-step.step t c.go_on.new.self c.go_on.new.buffers) c.in-Undefined.is r in
    u.1

pub returns-in-Undefined-clause-finished : goal.returns-in-Undefined-clause-finished
returns-in-Undefined-clause-finished c =
    let i = c.args.runner.now.image in
    let ids = c.args.ids.now in
    let g = c.go_on.ensures in
    let r = one_step i ids c.args.buffers.now c.loop-step.step c.loop-step.runner c.go_on.new.self c.loop-step.buffers c.go_on.new.buffers c.go_on.result c.loop-step.invariant.1
    g.kept g.moves g.words g.counts g.as_many in
    let u = subst (λ (t : Turn). OfTurn i ids c.args.buffers.now c.loop-step.step t c.go_on.new.self c.go_on.new.buffers) c.in-Undefined.is r in
    (omega arith, subst (λ (k : ℕ). EndsAt i ids c.args.buffers.now k c.go_on.new.buffers WasUndefined) (let e : suc c.loop-step.step ≡ c.loop-step.step + 1 = omega arith in e) u.2)

pub returns-clause-finished : goal.returns-clause-finished
returns-clause-finished c =
    let i = c.args.runner.now.image in
    let ids = c.args.ids.now in
    let u = c.loop-step.invariant in
    let le = u.0 in
    let out = out_of_steps i ids c.args.buffers.now c.loop-step.step c.loop-step.runner c.loop-step.buffers u.1 in
    subst (λ (k : ℕ). Within i ids c.args.buffers.now k c.loop-step.buffers Out) (let e : c.loop-step.step ≡ c.args.steps = omega arith in e) out
