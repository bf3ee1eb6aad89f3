use Rattle.std.proofs.Common.{sym, ap, subst, ◌∙◌}
use Rattle.run_plans.specs.declared.plan.Plan.{Plan}
use Rattle.spirv_run.specs.Machines.{Machine}
use Rattle.spirv_run.specs.Parts.{AreBound}
use Rattle.spirv_run.proofs.Running.{none_is_missing, done_bound, done_looked_up}
use Rattle.spirv_run.proofs.runner.Runner.step.Goals as goal
use Rattle.spirv_run.proofs.runner.Runner.step.Goals.{then-not-self, else-not-self}

pub returns-clause-does : goal.returns-clause-does
returns-clause-does c = λ ids lengths s at are all.
    let old = c.args.self.now in
    let m = c.if-not-self.self in
    let g = c.go_on.ensures in
    let now = c.go_on.new.self in
    elim c.if-not-self.branch [
      | then-not-self w ↦
          let l = w.look_up in
          let none = none_is_missing old.image.instructions c.args.buffers.now l.result all l.ensures.lacking in
          let found = l.ensures.all none in
          done_looked_up old m now ids lengths s c.args.buffers.now c.go_on.new.buffers c.go_on.result at are all g.kept g.moves g.words g.counts g.as_many
          l.new.self.positions l.new.self.counts l.new.self.is_bound (w.self-is ∙ l.ensures.kept) found.bound
          (subst (λ (p : Plan). AreBound p.buffers c.args.buffers.now l.new.self.counts) (ap (λ (n : Machine). n.plan) l.ensures.kept) found.counts)
      | else-not-self w ↦
          done_bound old m now ids lengths s c.args.buffers.now c.go_on.new.buffers c.go_on.result at are all g.kept g.moves g.words g.counts g.as_many w.self-is
          (ap (λ (n : Machine). n.is_bound) w.self-is ∙ (sym (ap (λ (n : Machine). n.is_bound) c.self.view_is) ∙ w.if-not-self.false))
    ]
